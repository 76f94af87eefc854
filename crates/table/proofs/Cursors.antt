-- What an answer means.
use Rattle.std.proofs.Common.{ℕ, ◌≡◌, Result, Ok, Err}
use Rattle.std.specs.Result.{result_from_control_flow}
use Rattle.std.proofs.Common.{Continue, Break, IsErr, IsErrAnd}
use mathlib.Core.Path.{refl, sym, ap, subst, ◌∙◌}
use Rattle.table.specs.declared.Cursor.{Cursor}
use Rattle.table.specs.declared.Failure.{Failure}
use Rattle.table.specs.declared.Failure.TheVariants as failure
use Rattle.table.specs.Cursor.{IResult, Step, Took, More, Refused, Deep, step, Stops}

-- the answer that has a meaning
abbrev pub answer_of : Step → IResult
answer_of (Took at n) = Ok (record { place = at; nodes = n })
answer_of (More wanted) = Err (failure.Unfinished wanted)
answer_of Refused = Err failure.Refused
answer_of Deep = Err failure.TooDeep

pub answer_step : (c : IResult) → c ≡ answer_of (step c)
answer_step (Ok c) = refl
answer_step (Err (failure.Unfinished wanted)) = refl
answer_step (Err failure.Refused) = refl
answer_step (Err failure.TooDeep) = refl

-- so two with one meaning are equal
pub one_meaning : (c q : IResult) → step c ≡ step q → c ≡ q
one_meaning c q p = answer_step c ∙ ap answer_of p ∙ sym (answer_step q)

-- one that a reading ended with
pub failed_stops : (f : Failure) → Stops (step (Err f))
failed_stops (failure.Unfinished wanted) = tt
failed_stops failure.Refused = tt
failed_stops failure.TooDeep = tt

-- a place and a number of nodes are no failure
pub going_on : (c : IResult) {at n : ℕ} → step c ≡ Took at n → c ≡ Ok (record { place = at; nodes = n })
going_on c p = answer_step c ∙ ap answer_of p

pub refused_is : (q : IResult) → step q ≡ Refused → q ≡ Err failure.Refused
refused_is q p = answer_step q ∙ ap answer_of p

-- where a cursor is
pub took_is : {c : IResult} {k : Cursor} {at n : ℕ} → c ≡ Ok k → step c ≡ Took at n → (at ≡ k.place) × (n ≡ k.nodes)
took_is {c} {k} {at} {n} e p = let z : Took at n ≡ Took k.place k.nodes = sym p ∙ ap step e in (cc, cc)

pub step_took : {c : IResult} {k : Cursor} → c ≡ Ok k → step c ≡ Took k.place k.nodes
step_took e = ap step e

pub step_failed : {c : IResult} {f : Failure} → c ≡ Err f → Stops (step c)
step_failed {f = f} e = subst (λ (x : IResult). Stops (step x)) (sym e) (failed_stops f)

-- what `?` goes on with
pub went_on : {T E : Type 0} {c : Result T E} {b : _} {k : T} → c ≡ result_from_control_flow b → b ≡ Continue k → c ≡ Ok k
went_on e p = e ∙ ap result_from_control_flow p

-- what `?` returns with
pub came_back : {T E : Type 0} {c : Result T E} {b : _} {x : _} → c ≡ result_from_control_flow b → b ≡ Break x → c ≡ Err x.0
came_back e p = e ∙ ap result_from_control_flow p

pub handed_back : {T E : Type 0} {q : Result T E} {f : E} → IsErr q × IsErrAnd q (λ e. e ≡ f) → q ≡ Err f
handed_back {q = Ok x} h = absurd h.1
handed_back {q = Err e} h = ap Err h.1
