use Rattle.std.proofs.Common.{rules}
use Rattle.std.proofs.lemmas.Str.{IsUtf8-from_ascii}
use Rattle.command_line.proofs.printable.text.Goals as goal

pub unwrap-requires : goal.unwrap-requires
unwrap-requires c =
    let u = IsUtf8-from_ascii c.args.ascii.now c.requires in
    let h = c.from_utf8.ensures.cases in
    search rules
