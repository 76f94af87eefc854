-- Entry names: the words in front of them, and the loop over a path.
use Prim.Native.Char.{code}
use Prim.Native.Nat.{ℕ, suc, ◌+◌, ◌≤◌, ◌<◌}
use mathlib.Core.Path.{◌≡◌, refl, sym, ap, ◌∙◌}
use mathlib.Core.Bool.{Bool, true, false, ◌&&◌, ◌||◌}
use mathlib.Core.Logic.{◌⊎◌, inl, inr}
use mathlib.Core.List.{List, [], ◌∷◌}
use native.Mathlib.Omega.{arith}
use native.Mathlib.Numerals.{add-one}
use lib.ListN.{length, take, drop, get_or, drop_of_length-le}
use lib.Seq.{drop-cons}
use lib.Dec.{eqb}
use lib.Pointwise.{pointwise}
use borrow.Author.Rules.{rules}
use borrow.Author.Tests.{eq-eqb, ne_eqb}
use Rattle.grammar.specs.Out.{branch}
use Rattle.grammar.specs.EntryName.{after_word, is_entry_component_char, check_path, check_vendor}

-- words in front of a name ---------------------------------------------------------------------------------------------------

-- the definition's word, as a test
after_begins : (word name : List ℕ) (then' : List ℕ → Bool) (else' : Unit {0} → Bool)
    → after_word word name then' else' ≡ branch (pointwise eqb (take (length word) name) word) (λ u. then' (drop (length word) name)) else'
unfolding after_word
after_begins [] name then' else' = refl
after_begins (c ∷ word) [] then' else' = refl
after_begins (c ∷ word) (b ∷ name) then' else' = go (eqb b c) (after_begins word name then' else')
  where
    go : (t : Bool)
        → after_word word name then' else' ≡ branch (pointwise eqb (take (length word) name) word) (λ u. then' (drop (length word) name)) else'
        → branch t (λ u. after_word word name then' else') else'
        ≡ branch (t && pointwise eqb (take (length word) name) word) (λ u. then' (drop (length word) name)) else'
    go true ih = ih
    go false ih = refl

module _ (word name : List ℕ) {r : Bool} (then' : List ℕ → Bool) (else' : Unit {0} → Bool) where
  -- it stands there
  pub behind : {rest : List ℕ} → pointwise eqb (take (length word) name) word ≡ true → rest ≡ drop (length word) name → r ≡ then' rest
      → r ≡ after_word word name then' else'
  behind p q a = a ∙ ap then' q ∙ sym (after_begins word name then' else' ∙ rw p)

  -- it does not
  pub without : pointwise eqb (take (length word) name) word ≡ false → r ≡ else' tt → r ≡ after_word word name then' else'
  without p a = a ∙ sym (after_begins word name then' else' ∙ rw p)

-- a vendor -------------------------------------------------------------------------------------------------------------------

-- two bytes
vendor_is : (name : List ℕ) → 2 ≤ length name
    → check_vendor name
    ≡ branch (eqb (get_or name 0 0) (code "/") && is_entry_component_char (get_or name 1 0)) (λ u. check_path false name) (λ u. false)
unfolding check_vendor
vendor_is [] h = absurd (omega arith)
vendor_is (b ∷ []) h = absurd (omega arith)
vendor_is (b ∷ c ∷ rest) h = refl

module _ (name : List ℕ) (h : 2 ≤ length name) where
  -- no slash
  pub vendor_no_slash : (get_or name 0 0 ≡ code "/" → ⊥) → false ≡ check_vendor name
  vendor_no_slash n = sym (vendor_is name h ∙ rw (ne_eqb _ _ n))

  module _ (slash : get_or name 0 0 ≡ code "/") {t : Bool} (e : t ≡ is_entry_component_char (get_or name 1 0)) where
    -- a vendor's name
    pub vendor_named : {r : Bool} → t ≡ true → r ≡ check_path false name → r ≡ check_vendor name
    vendor_named p q = q ∙ sym (vendor_is name h ∙ rw (eq-eqb _ _ slash, sym e ∙ p))

    -- none
    pub vendor_nameless : t ≡ false → false ≡ check_vendor name
    vendor_nameless p = sym (vendor_is name h ∙ rw (eq-eqb _ _ slash, sym e ∙ p))

-- fewer than two bytes
pub vendor_cut : (name : List ℕ) → length name < 2 → false ≡ check_vendor name
unfolding check_vendor
vendor_cut [] h = refl
vendor_cut (b ∷ []) h = refl
vendor_cut (b ∷ c ∷ rest) h = absurd (omega arith)

-- paths ----------------------------------------------------------------------------------------------------------------------

-- THE INVARIANT of the loop: what is left decides as the whole does
pub record Walking (name : List ℕ) (inside : Bool) (i : ℕ) : Type 0 where
  pub same : check_path inside (drop i name) ≡ check_path false name

module _ {name : List ℕ} {inside : Bool} {i : ℕ} (inv : Walking name inside i) where
  -- the name ends
  pub path_ends : length name ≤ i → true ≡ check_path false name
  unfolding check_path
  path_ends h = sym (ap (check_path inside) (drop_of_length-le name h)) ∙ inv.same

  module _ (h : i < length name) where
    -- what the byte at hand decides
    here : check_path inside (get_or name i 0 ∷ drop (suc i) name) ≡ check_path false name
    here = sym (ap (check_path inside) (drop-cons name i 0 h)) ∙ inv.same

    -- a byte of a component
    pub walk_inside : inside ≡ true → {t : Bool} → t ≡ is_entry_component_char (get_or name i 0) → t ≡ true → Walking name inside (i + 1)
    unfolding check_path
    walk_inside p e q = record { same = rw (p, add-one) (sym (ap (λ (x : Bool). check_path x (get_or name i 0 ∷ drop (suc i) name)) p ∙ rw (sym e ∙ q)) ∙ here) }

    module _ (out : inside && is_entry_component_char (get_or name i 0) ≡ false) where
      after : branch (eqb (get_or name i 0) (code " ") || eqb (get_or name i 0) (code "\r")) (λ u. true)
          (λ u. branch (eqb (get_or name i 0) (code "/")) (λ u. check_path true (drop (suc i) name)) (λ u. false)) ≡ check_path false name
      unfolding check_path
      after = sym (rw out) ∙ here

      -- a slash
      pub walk_slash : get_or name i 0 ≡ code "/" → Walking name true (i + 1)
      walk_slash p = record { same = rw add-one (rw p at after) }

      -- a CR or a space
      pub path_stops : (get_or name i 0 ≡ code "\r") ⊎ (get_or name i 0 ≡ code " ") → true ≡ check_path false name
      path_stops (inl p) = rw p at after
      path_stops (inr p) = rw p at after

      -- any other byte
      pub path_corrupt : (get_or name i 0 ≡ code "\r" → ⊥) → (get_or name i 0 ≡ code " " → ⊥) → (get_or name i 0 ≡ code "/" → ⊥) → false ≡ check_path false name
      path_corrupt n m k = rw (ne_eqb _ _ n, ne_eqb _ _ m, ne_eqb _ _ k) at after

-- what `search` is to know
pub ruleset vendors = (vendor_cut, vendor_no_slash, vendor_named, vendor_nameless, rules)
