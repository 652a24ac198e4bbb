-- A list of fields, read part by part: the fields read so far and the parts that are left decide.
use Prim.Native.Nat.{ℕ, suc, ◌+◌, ◌≤◌, ◌<◌}
use mathlib.Core.Path.{◌≡◌, refl, sym, ap, ◌∙◌}
use mathlib.Core.Logic.{◌⊎◌, inl, inr}
use mathlib.Core.Bool.{true, false, and-false, and-true}
use mathlib.Core.List.{List, [], ◌∷◌, ◌++◌, append-nil, append_assoc}
use mathlib.Core.Option.{Option, none, some}
use native.Mathlib.Numerals.{add-one}
use native.Mathlib.Omega.{arith}
use borrow.Author.Tests.{le-leb, lt-leb, eqb-true, leb-true}
use denote.Ref.{Bor}
use lib.Dec.{eqb, leb}
use lib.ListN.{length, get_or, take, drop, set, length-append}
use lib.Seq.{drop-cons, set_at, take_at, take_all, append_snoc}
use Rattle.std.specs.Prelude as code
use Rattle.std.specs.Prelude.{Some, None}
use Rattle.std.proofs.lemmas.Iterator.{YieldsList}
use Rattle.rules.proofs.ListLaws.{bool}
use Rattle.numbers.specs.Parts.{parts, same}
use Rattle.numbers.proofs.Splits.{item-first, none-left}
use Rattle.text.specs.Fields.{read_field, both, read_each, up_to_sixteen, is_dash, read_fields, onto, leading, words_after}
use Rattle.text.specs.Answers.{count_of}

pub dash-same : (t : List ℕ) → same t (45 ∷ []) ≡ is_dash t
dash-same [] = refl
dash-same (b ∷ []) = and-true (eqb b 45)
dash-same (b ∷ c ∷ bs) = and-false (eqb b 45)

pub dash-fields : (text : List ℕ) → is_dash text ≡ true → read_fields text ≡ some []
unfolding read_fields
dash-fields text e = rw e

-- `-` is no field, and nothing is written
pub dash-words : (text lent : List ℕ) → is_dash text ≡ true → words_after text lent ≡ lent
unfolding words_after read_field
dash-words [] lent e = let z : ◌≡◌ {A = ℕ} 0 1 = cc in absurd (omega arith)
dash-words (b ∷ []) lent e = rw (eqb-true b 45 e)
dash-words (b ∷ c ∷ bs) lent e = let z : ◌≡◌ {A = ℕ} 0 1 = cc in absurd (omega arith)

abbrev after : List ℕ → Option (List ℕ) → Option (List ℕ)
after done none = none
after done (some ws) = some (done ++ ws)

after_nothing : (o : Option (List ℕ)) → o ≡ after [] o
after_nothing none = refl
after_nothing (some ws) = refl

after_one : (done : List ℕ) (w : ℕ) (o : Option (List ℕ)) → after done (both (some w) o) ≡ after (done ++ (w ∷ [])) o
after_one done w none = refl
after_one done w (some ws) = ap some (sym (append_assoc done (w ∷ []) ws))

-- sixteen are read, and another part follows
too_many : (done : List ℕ) (first : Option ℕ) (rest : Option (List ℕ)) → length done ≡ 16 → up_to_sixteen (after done (both first rest)) ≡ none
too_many done none rest h = refl
too_many done (some w) none h = refl
too_many done (some w) (some ws) h =
    let l : 16 < length (done ++ (w ∷ ws)) = simp length-append (omega arith) in
    rw (lt-leb (length (done ++ (w ∷ ws))) 16 l)

-- the words that are done stand, where no more fields lead
settled : (text lent done : List ℕ) → take 16 (leading (parts 44 text)) ≡ done → words_after text lent ≡ done ++ drop (length done) lent
unfolding words_after
settled text lent done e = rw e

-- with parts left to come from s, those before it are done
pub record Reading {S : Type 0} (steps : S → code.Option (Bor (List ℕ)) → S → Type 0) (text lent now : List ℕ) (n : ℕ) (s : S) : Type 0 where
  pub left : List (List ℕ)
  pub come : YieldsList steps (λ x. x.now) s left
  pub done : List ℕ
  pub count : length done ≡ n
  pub few : n ≤ 16
  pub room : 16 ≤ length lent
  pub words : now ≡ done ++ drop n lent
  pub each : read_each (parts 44 text) ≡ after done (read_each left)
  pub lead : leading (parts 44 text) ≡ done ++ leading left
  pub undashed : is_dash text ≡ false

pub reading_begins : {S : Type 0} {steps : S → code.Option (Bor (List ℕ)) → S → Type 0} {text lent : List ℕ} {s : S} → 16 ≤ length lent → is_dash text ≡ false
    → YieldsList steps (λ x. x.now) s (parts 44 text) → Reading steps text lent lent 0 s
reading_begins {text = text} room h come =
    record {
      left = parts 44 text;
      come = come;
      done = [];
      count = refl;
      few = omega arith;
      room = room;
      words = refl;
      each = after_nothing (read_each (parts 44 text));
      lead = refl;
      undashed = h;
    }

module _ {S : Type 0} {steps : S → code.Option (Bor (List ℕ)) → S → Type 0} {text lent now : List ℕ} {n : ℕ} {s : S} (r : Reading steps text lent now n s) where
  answered : (o : Option (List ℕ)) → up_to_sixteen (read_each (parts 44 text)) ≡ o → read_fields text ≡ o
  unfolding read_fields
  answered o e = rw (r.undashed, e)

  kept : take 16 (leading (parts 44 text)) ≡ r.done → now ≡ words_after text lent
  kept e = r.words ∙ ap (λ (k : ℕ). r.done ++ drop k lent) (sym r.count) ∙ sym (settled text lent r.done e)

  module _ (t : S) where
    -- none comes
    module _ (k : steps s None t) where
      nothing : r.left ≡ []
      nothing = none-left r.come k

      pub all_done : Some n ≡ count_of (read_fields text)
      all_done =
          let l : length r.done ≤ 16 = omega (arith, r.count, r.few) in
          let each : read_each (parts 44 text) ≡ some r.done = r.each ∙ ap (λ (ps : List (List ℕ)). after r.done (read_each ps)) nothing ∙ ap some (append-nil r.done) in
          ap Some (sym r.count) ∙ sym (ap count_of (answered (some r.done) (ap up_to_sixteen each ∙ rw (le-leb (length r.done) 16 l))))

      pub all_kept : now ≡ words_after text lent
      all_kept =
          let l : length r.done ≤ 16 = omega (arith, r.count, r.few) in
          let lead : leading (parts 44 text) ≡ r.done = r.lead ∙ ap (λ (ps : List (List ℕ)). r.done ++ leading ps) nothing ∙ append-nil r.done in
          kept (ap (take 16) lead ∙ take_all 16 r.done l)

    -- a part comes
    module _ (x : Bor (List ℕ)) (k : steps s (Some x) t) where
      abbrev rest : List (List ℕ)
      rest = (item-first r.come k).0

      each-first : read_each (parts 44 text) ≡ after r.done (both (read_field x.now) (read_each rest))
      each-first = r.each ∙ ap (λ (ps : List (List ℕ)). after r.done (read_each ps)) (item-first r.come k).1

      lead-first : leading (parts 44 text) ≡ r.done ++ onto (read_field x.now) (leading rest)
      lead-first = r.lead ∙ ap (λ (ps : List (List ℕ)). r.done ++ leading ps) (item-first r.come k).1

      -- sixteen are done
      module _ (full : n ≡ 16) where
        pub full-none : None ≡ count_of (read_fields text)
        full-none =
            sym (ap count_of (answered none (ap up_to_sixteen each-first ∙ too_many r.done (read_field x.now) (read_each rest) (r.count ∙ full))))

        pub full_kept : now ≡ words_after text lent
        full_kept = kept (ap (take 16) r.lead ∙ take_at r.done (leading r.left) 16 (r.count ∙ full))

      -- it is unreadable
      module _ (e : read_field x.now ≡ none) where
        pub stopped-none : None ≡ count_of (read_fields text)
        stopped-none =
            sym (ap count_of (answered none (ap up_to_sixteen (each-first ∙ ap (λ (o : Option ℕ). after r.done (both o (read_each rest))) e))))

        pub stopped_kept : now ≡ words_after text lent
        stopped_kept =
            let l : length r.done ≤ 16 = omega (arith, r.count, r.few) in
            let lead : leading (parts 44 text) ≡ r.done = lead-first ∙ ap (λ (o : Option ℕ). r.done ++ onto o (leading rest)) e ∙ append-nil r.done in
            kept (ap (take 16) lead ∙ take_all 16 r.done l)

      -- it reads as the field w
      pub reading-on : {w : ℕ} → read_field x.now ≡ some w → (n ≡ 16 → ⊥) → Reading steps text lent (set now n w) (n + 1) t
      reading-on {w} e more =
          let few = r.few in
          let k' : n < length lent = omega (arith, r.room) in
          record {
            left = rest;
            come = (item-first r.come k).2;
            done = r.done ++ (w ∷ []);
            count = length-append r.done (w ∷ []) ∙ ap (λ (m : ℕ). m + 1) r.count;
            few = omega arith;
            room = r.room;
            words =
                ap (λ (l : List ℕ). set l n w) (r.words ∙ ap (λ (l : List ℕ). r.done ++ l) (drop-cons lent n 0 k'))
                ∙ set_at r.done (get_or lent n 0) (drop (suc n) lent) w n r.count ∙ sym (append_snoc r.done w (drop (suc n) lent)) ∙ rw add-one refl;
            each = each-first ∙ ap (λ (o : Option ℕ). after r.done (both o (read_each rest))) e ∙ after_one r.done w (read_each rest);
            lead = lead-first ∙ ap (λ (o : Option ℕ). r.done ++ onto o (leading rest)) e ∙ sym (append_snoc r.done w (leading rest));
            undashed = r.undashed;
          }

-- ---- where the list is readable

each-leads : (ps : List (List ℕ)) (ws : List ℕ) → read_each ps ≡ some ws → leading ps ≡ ws
each-leads [] ws e = let q : [] ≡ ws = cc in q
each-leads (p ∷ ps) ws e = go (read_field p) (read_each ps) (each-leads ps) refl e
  where
    go : (o : Option ℕ) (q : Option (List ℕ)) → ((vs : List ℕ) → read_each ps ≡ some vs → leading ps ≡ vs) → read_each ps ≡ q
        → both o q ≡ some ws → onto o (leading ps) ≡ ws
    go none q r h b = let z : ◌≡◌ {A = ℕ} 0 1 = cc in absurd (omega arith)
    go (some w) none r h b = let z : ◌≡◌ {A = ℕ} 0 1 = cc in absurd (omega arith)
    go (some w) (some vs) r h b = let s : w ∷ vs ≡ ws = cc in ap (λ (l : List ℕ). w ∷ l) (r vs h) ∙ s

up_to : (o : Option (List ℕ)) (ws : List ℕ) → up_to_sixteen o ≡ some ws → (o ≡ some ws) × (length ws ≤ 16)
up_to none ws e = let z : ◌≡◌ {A = ℕ} 0 1 = cc in absurd (omega arith)
up_to (some vs) ws e = go (bool (leb (length vs) 16))
  where
    go : (leb (length vs) 16 ≡ true) ⊎ (leb (length vs) 16 ≡ false) → (some vs ≡ some ws) × (length ws ≤ 16)
    go (inl t) =
        let q : some vs ≡ some ws = rw t at e in
        let s : vs ≡ ws = cc in
        (q, omega (arith, leb-true (length vs) 16 t, ap length s))
    go (inr t) =
        let q : none ≡ some ws = rw t at e in
        let z : ◌≡◌ {A = ℕ} 0 1 = cc in absurd (omega arith)

-- the list's fields are in front, and what was lent behind them is kept
pub words-read : (text lent ws : List ℕ) → read_fields text ≡ some ws → (words_after text lent ≡ ws ++ drop (length ws) lent) × (length ws ≤ 16)
unfolding read_fields
words-read text lent ws e = go (bool (is_dash text))
  where
    go : (is_dash text ≡ true) ⊎ (is_dash text ≡ false) → (words_after text lent ≡ ws ++ drop (length ws) lent) × (length ws ≤ 16)
    go (inl t) =
        let q : some [] ≡ some ws = rw t at e in
        let s : [] ≡ ws = cc in
        rw (← s) (dash-words text lent t, omega arith)
    go (inr t) =
        let q : up_to_sixteen (read_each (parts 44 text)) ≡ some ws = rw t at e in
        let u = up_to (read_each (parts 44 text)) ws q in
        (settled text lent ws (ap (take 16) (each-leads (parts 44 text) ws u.0) ∙ take_all 16 ws u.1), u.1)
