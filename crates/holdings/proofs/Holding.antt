-- The names of the fields, gained one field after another, as edits of a sound space's words.
use Prim.Native.Nat.{ℕ, zero, suc, ◌+◌, ◌<◌}
use mathlib.Core.Path.{◌≡◌, refl, sym, ap, ◌∙◌}
use mathlib.Core.Bool.{true}
use mathlib.Core.List.{List, [], ◌∷◌, ◌++◌, append_assoc, append-nil}
use native.Mathlib.Nat.{le_of_suc-le-suc, not-suc-le-zero}
use native.Mathlib.Numerals.{add-one}
use lib.ListN.{length, take, get_or, set}
use Rattle.rules.specs.Names.{Name, partition, key, NameInRange, with_bit}
use Rattle.rules.specs.Fields.{Field, name, field, name_in, names_in}
use Rattle.rules.specs.State.{State, give, give_all}
use Rattle.rules.specs.Words.{encode, decode, sound}
use Rattle.rules.proofs.FieldLaws.{name-words}
use Rattle.rules.proofs.Rows.{WF, decode-encode, sound-encode}
use Rattle.rules.proofs.Kept.{names_in-ok, wf-give_all, few-rows}
use Rattle.rules.proofs.Back.{wf-decode, encode-decode}
use Rattle.rules.proofs.Edits.{give-partition-edit, give-key-edit}

-- the name in a field word is in range
pub name-ok : (w : ℕ) (n : Name) → field w ≡ name n → NameInRange n
name-ok w n e = ((name-words w n).0 e).1

give_all-append : (who : ℕ) (ns ms : List Name) (s : State) → give_all who (ns ++ ms) s ≡ give_all who ms (give_all who ns s)
give_all-append who [] ms s = refl
give_all-append who (n ∷ ns) ms s = give_all-append who ns ms (give who n s)

names-suc : (fs : List ℕ) (i : ℕ) → i < length fs → names_in (take (suc i) fs) ≡ names_in (take i fs) ++ name_in (field (get_or fs i 0))
names-suc [] i l = absurd (not-suc-le-zero l)
names-suc (w ∷ fs) zero l = append-nil (name_in (field w))
names-suc (w ∷ fs) (suc i) l =
    rw (append_assoc (name_in (field w)) (names_in (take i fs)) (name_in (field (get_or fs i 0))))
    (ap (λ (ns : List Name). name_in (field w) ++ ns) (names-suc fs i (le_of_suc-le-suc l)))

module _ (ws : List ℕ) (h : sound ws ≡ true) (who : ℕ) where
  -- ---- one field

  pub hold-none : (f g : Field) → f ≡ g → name_in g ≡ [] → ws ≡ encode (give_all who (name_in f) (decode ws))
  hold-none f g e q = rw (e, q) (sym (encode-decode ws h))

  pub hold-partition : (f : Field) (c : ℕ) → who < 8 → f ≡ name (partition c)
      → set ws (1 + who) (with_bit (get_or ws (1 + who) 0) c) ≡ encode (give_all who (name_in f) (decode ws))
  hold-partition f c l e = rw e (sym (give-partition-edit ws h who c l))

  pub hold-key : (f : Field) (k : ℕ) → who < 8 → f ≡ name (key k)
      → set ws (9 + who) (with_bit (get_or ws (9 + who) 0) k) ≡ encode (give_all who (name_in f) (decode ws))
  hold-key f k l e = rw e (sym (give-key-edit ws h who k l))

  -- ---- one field after another

  wf-held : (fs : List ℕ) → WF (give_all who (names_in fs) (decode ws))
  wf-held fs = wf-give_all who (names_in fs) (decode ws) (names_in-ok fs) (wf-decode ws h)

  pub held-sound : (fs now : List ℕ) → now ≡ encode (give_all who (names_in fs) (decode ws)) → sound now ≡ true
  held-sound fs now e = let wf = wf-held fs in rw e (sound-encode (give_all who (names_in fs) (decode ws)) wf (few-rows _ wf))

  pub hold-more : (fs now next : List ℕ) (i : ℕ) → now ≡ encode (give_all who (names_in (take i fs)) (decode ws))
      → next ≡ encode (give_all who (name_in (field (get_or fs i 0))) (decode now)) → i < length fs
      → next ≡ encode (give_all who (names_in (take (i + 1) fs)) (decode ws))
  hold-more fs now next i e q l =
      let wf = wf-held (take i fs) in
      let s : State = give_all who (names_in (take i fs)) (decode ws) in
      let d : decode now ≡ s = rw e (decode-encode s wf (few-rows s wf)) in
      let ms : List Name = name_in (field (get_or fs i 0)) in
      q ∙ ap (λ (t : State). encode (give_all who ms t)) d
      ∙ ap encode (sym (give_all-append who (names_in (take i fs)) ms (decode ws)))
      ∙ ap (λ (ns : List Name). encode (give_all who ns (decode ws))) (sym (names-suc fs i l) ∙ ap (λ (j : ℕ). names_in (take j fs)) (sym (add-one i)))
