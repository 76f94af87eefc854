use Rattle.std.proofs.Common.{◌≡◌, length, sym, ap, ◌∙◌, arith, rules}
use Rattle.std.proofs.lemmas.Grind.{put_two, put_three}
use Rattle.std.proofs.lemmas.List.{take_all}
use Rattle.command_line.specs.Printed.{escaped}
use Rattle.command_line.proofs.Plain.{run_more, run_written, byte_written}
use Rattle.command_line.proofs.printable.EscapedDisplay.fmt.Goals as goal
use Rattle.command_line.proofs.printable.EscapedDisplay.fmt.Goals.{then-not-is_plain+in_ok-write_str+in_ok-write_escape, else-not-is_plain}

pub loop-at-preserved : goal.loop-at-preserved
loop-at-preserved g c =
    let l = c.loop-at in
    let s = c.args.self.now.0.now in
    elim c.if-not-is_plain.branch [
      | then-not-is_plain+in_ok-write_str+in_ok-write_escape w ↦
          rw (w.start-is, w.f-is) (record {
            in_order = omega arith;
            run = λ k low high. absurd (omega arith);
            so_far = λ p.
                let sofar = l.invariant.so_far p in
                let one = w.write_str.ensures.writes sofar.plain (search rules) in
                let two = w.write_escape.ensures one.plain (search rules) in
                put_three _ _ _ _ _ _ _ _ _ sofar one two (rw w.text.ensures (byte_written s l.start l.at l.invariant.in_order c.loop-at-test.true l.invariant.run));
          })
      | else-not-is_plain w ↦
          rw (w.start-is, w.f-is) (record {
            in_order = omega arith;
            run = run_more s l.start l.at l.invariant.run (sym c.is_plain.ensures ∙ w.if-not-is_plain.false);
            so_far = l.invariant.so_far;
          })
    ]

pub returns-clause-writes : goal.returns-clause-writes
returns-clause-writes g c plain ok =
    let l = c.loop-at in
    let s = c.args.self.now.0.now in
    let sofar = l.invariant.so_far plain in
    let one = c.write_str-2.ensures.writes sofar.plain ok in
    let at_end : l.at ≡ length s = omega arith in
    put_two _ _ _ _ _ _ _ sofar one
    (rw c.text-2.ensures (run_written s l.start (length s) (omega arith) (rw at_end at l.invariant.run) ∙ ap escaped (take_all (length s) s (omega arith))))
