-- The place of the oldest match: how a search that goes row by row finds it, and what it says of the entry found.
use mathlib.Core.Path.{◌≡◌, refl, sym, ap}
use mathlib.Core.Logic.{◌⊎◌, inl, inr}
use mathlib.Core.Bool.{Bool, true, false}
use mathlib.Core.List.{List, [], ◌∷◌, ◌++◌}
use mathlib.Core.Option.{none, some}
use Rattle.std.specs.Prelude.{Option, Some, None}
use Prim.Native.Nat.{ℕ, suc, ◌+◌, ◌≤◌, ◌<◌}
use native.Mathlib.Omega.{arith}
use lib.ListN.{length, take, drop, drop_of_length-le}
use Rattle.std.proofs.lemmas.Option.{none-some, same_Some}
use Rattle.rules.specs.Lists.{first, without}
use Rattle.rules.specs.Matching.{Entry}
use Rattle.rules.proofs.ListLaws.{bool}
use Rattle.search.specs.Place.{later, place}

-- a place among the entries after the first r, as one among all
abbrev pub past : ℕ → Option ℕ → Option ℕ
past r (Some i) = Some (r + i)
past r None = None

pub past-none : (f : Option ℕ) → f ≡ past 0 f
past-none (Some i) = ap Some (omega arith)
past-none None = refl

past-later : (r : ℕ) (f : Option ℕ) → past r (later f) ≡ past (r + 1) f
past-later r (Some i) = ap Some (omega arith)
past-later r None = refl

module _ (m : Entry → Bool) (r : ℕ) where
  pub hit : (es rest : List Entry) (e : Entry) → es ≡ e ∷ rest → m e ≡ true → past r (place m es) ≡ Some r
  hit es rest e s h = rw (s, h) (ap Some (omega arith))

  pub miss : (es rest : List Entry) (e : Entry) → es ≡ e ∷ rest → m e ≡ false → past r (place m es) ≡ past (r + 1) (place m rest)
  miss es rest e s h = rw (s, h) (past-later r (place m rest))

  pub over : (es : List Entry) (n : ℕ) → length es ≡ n → n ≤ r → past r (place m (drop r es)) ≡ None
  over es n e l = let k : length es ≤ r = omega arith in rw (drop_of_length-le es k)

-- the entry at the place found: the first match, and the one that a removal leaves out
pub record PlaceFound (m : Entry → Bool) (es : List Entry) (r : ℕ) : Type 0 where
  pub below : r < length es
  pub entry : Entry
  pub at : drop r es ≡ entry ∷ drop (suc r) es
  pub matched : m entry ≡ true
  pub found : first m es ≡ some entry
  pub removed : without m es ≡ take r es ++ drop (suc r) es

module _ (m : Entry → Bool) where
  found-head : (e : Entry) (es : List Entry) → m e ≡ true → PlaceFound m (e ∷ es) 0
  found-head e es h = record { below = omega arith; entry = e; at = refl; matched = h; found = rw h; removed = rw h }

  found-later : (e : Entry) (es : List Entry) (i : ℕ) → m e ≡ false → PlaceFound m es i → PlaceFound m (e ∷ es) (suc i)
  found-later e es i h f =
      record {
        below = omega (arith, f.below);
        entry = f.entry;
        at = f.at;
        matched = f.matched;
        found = rw h f.found;
        removed = rw (h, f.removed);
      }

  pub place_found : (es : List Entry) (r : ℕ) → place m es ≡ Some r → PlaceFound m es r
  place_found [] r h = absurd (none-some r h)
  place_found (e ∷ es) r h = go (bool (m e)) (place m es) (place_found es) refl
    where
      go : (m e ≡ true) ⊎ (m e ≡ false) → (f : Option ℕ) → ((i : ℕ) → place m es ≡ Some i → PlaceFound m es i) → place m es ≡ f → PlaceFound m (e ∷ es) r
      go (inl t) f again q = rw (← same_Some 0 r (rw t at h)) (found-head e es t)
      go (inr t) (Some i) again q = rw (← same_Some (suc i) r (rw (t, q) at h)) (found-later e es i t (again i q))
      go (inr t) None again q = absurd (none-some r (rw (t, q) at h))

  pub place_none : (es : List Entry) → place m es ≡ None → first m es ≡ none
  place_none [] h = refl
  place_none (e ∷ es) h = go (bool (m e)) (place m es) (place_none es) refl
    where
      go : (m e ≡ true) ⊎ (m e ≡ false) → (f : Option ℕ) → (place m es ≡ None → first m es ≡ none) → place m es ≡ f → first m (e ∷ es) ≡ none
      go (inl t) f again q = absurd (none-some 0 (sym (rw t at h)))
      go (inr t) (Some i) again q = absurd (none-some (suc i) (sym (rw (t, q) at h)))
      go (inr t) None again q = rw t (again q)
