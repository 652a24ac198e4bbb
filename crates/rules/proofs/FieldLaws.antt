-- Field words: by kind, what a field of a known kind carries, and what agrees with a template's field.
use Prim.Native.Nat.{ℕ, ◌+◌, ◌*◌, ◌/◌, ◌%◌, ◌≤◌, ◌<◌}
use mathlib.Core.Path.{◌≡◌, refl, sym, ap, ap₂, ◌∙◌}
use mathlib.Core.Logic.{◌⊎◌, ◌≢◌, inl, inr, ⊎_elim}
use mathlib.Core.Bool.{Bool, true, false, ◌&&◌, ◌||◌, cond, true≢false, and-true, and-false, and_comm}
use native.Mathlib.Nat.{div-add-mod', div-eq_of_lt, mod-lt, mod-eq_of_lt, zero-lt-suc}
use native.Mathlib.Omega.{arith}
use borrow.Author.Tests.{ltb-true, ltb-false, lt-ltb, eqb-true, eq-eqb, leb-true, le-leb}
use lib.Arith.{digits_div, digits_mod}
use lib.Dec.{eqb, leb, ltb}
use Rattle.rules.specs.Lists.{all}
use Rattle.rules.specs.Names.{Name, partition, key, NameInRange, held_in}
use Rattle.rules.specs.Fields.{Field, message, name, wildcard, at_least, at_most, bad, field_of, field, name_word, is_data, is_wildcard, is_bound, name_in, message_that, agrees_with, field_agrees}
use Rattle.rules.specs.Claims.{Iff, NameWords, MessageWords, BoundsAgree}
use Rattle.rules.proofs.ListLaws.{bool, and_left, and_right}

-- what holds of each kind's fields, and of a bad one, holds of them all
pub by_kind : (P : Field → Type 0) (k v : ℕ)
    → (k ≡ 0 → P (message v))
    → (k ≡ 1 → v < 64 → P (name (partition v)))
    → (k ≡ 2 → v < 63 → P (name (key v)))
    → (k ≡ 3 → v ≡ 0 → P wildcard)
    → (k ≡ 4 → P (at_least v))
    → (k ≡ 5 → P (at_most v))
    → P bad
    → P (field_of k v)
by_kind P k v m p s w g l b =
    kind (bool (eqb k 0)) (bool (eqb k 1)) (bool (eqb k 2)) (bool (eqb k 3)) (bool (eqb k 4)) (bool (eqb k 5))
  where
    ranged : (c : Bool) (f : Field) → (c ≡ true → P f) → P (cond c f bad)
    ranged true f h = h refl
    ranged false f h = b

    kind : (eqb k 0 ≡ true) ⊎ (eqb k 0 ≡ false) → (eqb k 1 ≡ true) ⊎ (eqb k 1 ≡ false) → (eqb k 2 ≡ true) ⊎ (eqb k 2 ≡ false)
        → (eqb k 3 ≡ true) ⊎ (eqb k 3 ≡ false) → (eqb k 4 ≡ true) ⊎ (eqb k 4 ≡ false) → (eqb k 5 ≡ true) ⊎ (eqb k 5 ≡ false)
        → P (field_of k v)
    kind (inl e) c d f g5 h = rw e (m (eqb-true k 0 e))
    kind (inr a) (inl e) d f g5 h = rw (a, e) (ranged (ltb v 64) _ (λ r. p (eqb-true k 1 e) (ltb-true v 64 r)))
    kind (inr a) (inr c) (inl e) f g5 h = rw (a, c, e) (ranged (ltb v 63) _ (λ r. s (eqb-true k 2 e) (ltb-true v 63 r)))
    kind (inr a) (inr c) (inr d) (inl e) g5 h = rw (a, c, d, e) (ranged (eqb v 0) _ (λ r. w (eqb-true k 3 e) (eqb-true v 0 r)))
    kind (inr a) (inr c) (inr d) (inr f) (inl e) h = rw (a, c, d, f, e) (g (eqb-true k 4 e))
    kind (inr a) (inr c) (inr d) (inr f) (inr g5) (inl e) = rw (a, c, d, f, g5, e) (l (eqb-true k 5 e))
    kind (inr a) (inr c) (inr d) (inr f) (inr g5) (inr h) = rw (a, c, d, f, g5, h) b

-- a word that carries one name asks for that name
pub held-name : (partitions keys : ℕ) (f : Field) (n : Name) → f ≡ name n → held_in partitions keys n ≡ all (held_in partitions keys) (name_in f)
held-name partitions keys f n e = rw e (sym (and-true (held_in partitions keys n)))

-- ---- the words of names and messages

module _ (k v : ℕ) (n : Name) where
  named : field_of k v ≡ name n → (k * 4294967296 + v ≡ name_word n) × NameInRange n
  named =
      by_kind (λ f. f ≡ name n → (k * 4294967296 + v ≡ name_word n) × NameInRange n) k v
      (λ e q. let z : ◌≡◌ {A = ℕ} 0 1 = cc in absurd (omega arith))
      (λ e r q. let i : n ≡ partition v = cc in rw (i, e) (refl, omega arith))
      (λ e r q. let i : n ≡ key v = cc in rw (i, e) (refl, omega arith))
      (λ e r q. let z : ◌≡◌ {A = ℕ} 0 1 = cc in absurd (omega arith))
      (λ e q. let z : ◌≡◌ {A = ℕ} 0 1 = cc in absurd (omega arith))
      (λ e q. let z : ◌≡◌ {A = ℕ} 0 1 = cc in absurd (omega arith))
      (λ q. let z : ◌≡◌ {A = ℕ} 0 1 = cc in absurd (omega arith))

word_at : (k v : ℕ) → v < 4294967296 → field (k * 4294967296 + v) ≡ field_of k v
unfolding field
word_at k v h = ap₂ field_of (digits_div k h) (digits_mod k h)

word-named : (n : Name) → NameInRange n → field (name_word n) ≡ name n
word-named (partition c) h = word_at 1 c (omega arith) ∙ rw (lt-ltb c 64 (omega arith)) refl
word-named (key k) h = word_at 2 k (omega arith) ∙ rw (lt-ltb k 63 (omega arith)) refl

pub name-words : NameWords
unfolding field
name-words w n = (there, λ h. rw h.0 (word-named n h.1))
  where
    there : field w ≡ name n → (w ≡ name_word n) × NameInRange n
    there e =
        let q = named (w / 4294967296) (w % 4294967296) n e in
        (sym (div-add-mod' w 4294967296) ∙ q.0, q.1)

-- a field of another kind is no message
no-message : (test : ℕ → Bool) (k v : ℕ) → k ≢ 0 → message_that test (field_of k v) ≡ false
no-message test k v h =
    by_kind (λ f. message_that test f ≡ false) k v (λ e. absurd (h e)) (λ e r. refl) (λ e r. refl) (λ e r. refl) (λ e. refl) (λ e. refl) refl

message-word : (w : ℕ) → w < 4294967296 → field w ≡ message w
unfolding field
message-word w h = rw (div-eq_of_lt h, mod-eq_of_lt h) refl

larger-word : (test : ℕ → Bool) (w : ℕ) → 4294967296 ≤ w → message_that test (field w) ≡ false
unfolding field
larger-word test w h =
    let split : w / 4294967296 * 4294967296 + w % 4294967296 ≡ w = div-add-mod' w 4294967296 in
    no-message test (w / 4294967296) (w % 4294967296) (λ e. omega (arith, split, mod-lt w (zero-lt-suc 4294967295)))

-- a message is its word, and has 32 bits
pub message-that : (test : ℕ → Bool) (w : ℕ) → message_that test (field w) ≡ (ltb w 4294967296 && test w)
message-that test w = go (bool (ltb w 4294967296))
  where
    go : (ltb w 4294967296 ≡ true) ⊎ (ltb w 4294967296 ≡ false) → message_that test (field w) ≡ (ltb w 4294967296 && test w)
    go (inl h) = rw (h, message-word w (ltb-true w 4294967296 h)) refl
    go (inr h) = rw h (larger-word test w (ltb-false w 4294967296 h))

pub message-words : MessageWords
message-words w v = (there, λ h. rw h.0 (message-word v h.1))
  where
    there : field w ≡ message v → (w ≡ v) × (v < 4294967296)
    there e = go (bool (ltb w 4294967296))
      where
        go : (ltb w 4294967296 ≡ true) ⊎ (ltb w 4294967296 ≡ false) → (w ≡ v) × (v < 4294967296)
        go (inl h) =
            let l = ltb-true w 4294967296 h in
            let both : message w ≡ message v = sym (message-word w l) ∙ e in
            let same : w ≡ v = cc in (same, omega arith)
        go (inr h) =
            let no : message_that (λ x. true) (field w) ≡ false = larger-word (λ x. true) w (ltb-false w 4294967296 h) in
            let yes : message_that (λ x. true) (field w) ≡ true = ap (message_that (λ x. true)) e in
            absurd (true≢false (sym yes ∙ no))

-- ---- what agrees

-- a bound's test, as the code makes it
pub at-least-test : (v f : ℕ) → message_that (leb v) (field f) ≡ (leb v f && ltb f 4294967296)
at-least-test v f = message-that (leb v) f ∙ and_comm (ltb f 4294967296) (leb v f)

pub at-most-test : (v f : ℕ) → v < 4294967296 → message_that (λ m. leb m v) (field f) ≡ leb f v
at-most-test v f h = message-that (λ m. leb m v) f ∙ go (bool (leb f v))
  where
    go : (leb f v ≡ true) ⊎ (leb f v ≡ false) → (ltb f 4294967296 && leb f v) ≡ leb f v
    go (inl e) = let l = leb-true f v e in rw (lt-ltb f 4294967296 (omega arith), e) refl
    go (inr e) = rw e (and-false (ltb f 4294967296))

-- the value of a bound has 32 bits
pub at-most-fits : (w v : ℕ) → field w ≡ at_most v → v < 4294967296
unfolding field
at-most-fits w v e = of-kind (w / 4294967296) (w % 4294967296) (mod-lt w (zero-lt-suc 4294967295)) e
  where
    of-kind : (k x : ℕ) → x < 4294967296 → field_of k x ≡ at_most v → v < 4294967296
    of-kind k x l =
        by_kind (λ f. f ≡ at_most v → v < 4294967296) k x
        (λ e q. let z : ◌≡◌ {A = ℕ} 0 1 = cc in absurd (omega arith))
        (λ e r q. let z : ◌≡◌ {A = ℕ} 0 1 = cc in absurd (omega arith))
        (λ e r q. let z : ◌≡◌ {A = ℕ} 0 1 = cc in absurd (omega arith))
        (λ e r q. let z : ◌≡◌ {A = ℕ} 0 1 = cc in absurd (omega arith))
        (λ e q. let z : ◌≡◌ {A = ℕ} 0 1 = cc in absurd (omega arith))
        (λ e q. let same : x ≡ v = cc in omega arith)
        (λ q. let z : ◌≡◌ {A = ℕ} 0 1 = cc in absurd (omega arith))

pub bounds-agree : BoundsAgree
unfolding field_agrees
bounds-agree v f h = record { at_least = (low, low-back); at_most = (high, high-back) }
  where
    least : field_agrees (4 * 4294967296 + v) f ≡ message_that (leb v) (field f)
    least = ap (λ (x : Field). agrees_with x (4 * 4294967296 + v) f) (word_at 4 v h)

    most : field_agrees (5 * 4294967296 + v) f ≡ message_that (λ m. leb m v) (field f)
    most = ap (λ (x : Field). agrees_with x (5 * 4294967296 + v) f) (word_at 5 v h)

    passed : (test : ℕ → Bool) → message_that test (field f) ≡ true → (field f ≡ message f) × (test f ≡ true)
    passed test e =
        let q : (ltb f 4294967296 && test f) ≡ true = sym (message-that test f) ∙ e in
        (message-word f (ltb-true f 4294967296 (and_left (ltb f 4294967296) (test f) q)), and_right (ltb f 4294967296) (test f) q)

    low : field_agrees (4 * 4294967296 + v) f ≡ true → (field f ≡ message f) × (v ≤ f)
    low e = let q = passed (leb v) (sym least ∙ e) in (q.0, leb-true v f q.1)

    low-back : (field f ≡ message f) × (v ≤ f) → field_agrees (4 * 4294967296 + v) f ≡ true
    low-back q = least ∙ ap (message_that (leb v)) q.0 ∙ le-leb v f q.1

    high : field_agrees (5 * 4294967296 + v) f ≡ true → (field f ≡ message f) × (f ≤ v)
    high e = let q = passed (λ m. leb m v) (sym most ∙ e) in (q.0, leb-true f v q.1)

    high-back : (field f ≡ message f) × (f ≤ v) → field_agrees (5 * 4294967296 + v) f ≡ true
    high-back q = most ∙ ap (message_that (λ m. leb m v)) q.0 ∙ le-leb f v q.1

-- a field that is no bound agrees with the same word, or as the wildcard with anything
pub without-bound : (t f : ℕ) → is_bound (field t) ≡ false → Iff (field_agrees t f ≡ true) ((field t ≡ wildcard) ⊎ (t ≡ f))
unfolding field_agrees
without-bound t f = by_field (field t)
  where
    same : {A : Type 0} → (A → t ≡ f) → Iff (eqb t f ≡ true) (A ⊎ (t ≡ f))
    same other = (λ e. inr (eqb-true t f e), ⊎_elim (λ a. eq-eqb t f (other a)) (eq-eqb t f))

    by_field : (x : Field) → is_bound x ≡ false → Iff (agrees_with x t f ≡ true) ((x ≡ wildcard) ⊎ (t ≡ f))
    by_field (message v) h = same (λ q. let z : ◌≡◌ {A = ℕ} 0 1 = cc in absurd (omega arith))
    by_field (name n) h = same (λ q. let z : ◌≡◌ {A = ℕ} 0 1 = cc in absurd (omega arith))
    by_field wildcard h = (λ e. inl refl, λ q. refl)
    by_field (at_least v) h = absurd (true≢false h)
    by_field (at_most v) h = absurd (true≢false h)
    by_field bad h = same (λ q. let z : ◌≡◌ {A = ℕ} 0 1 = cc in absurd (omega arith))

-- a word that is no bound agrees with the same word, or as the wildcard's with anything: the code's test
pub plain-test : (t f : ℕ) → is_bound (field t) ≡ false → field_agrees t f ≡ (eqb t 12884901888 || eqb t f)
unfolding field field_agrees
plain-test t f h = go (bool (eqb t 12884901888))
  where
    go : (eqb t 12884901888 ≡ true) ⊎ (eqb t 12884901888 ≡ false) → field_agrees t f ≡ (eqb t 12884901888 || eqb t f)
    go (inl e) = let same : t ≡ 12884901888 = eqb-true t 12884901888 e in rw same
    go (inr e) =
        let split : t / 4294967296 * 4294967296 + t % 4294967296 ≡ t = div-add-mod' t 4294967296 in
        rw e
        (by_kind (λ x. is_bound x ≡ false → agrees_with x t f ≡ eqb t f) (t / 4294967296) (t % 4294967296)
        (λ k b. refl) (λ k r b. refl) (λ k r b. refl)
        (λ k v b. let same : t ≡ 12884901888 = omega (arith, split) in absurd (true≢false (sym (eq-eqb t 12884901888 same) ∙ e)))
        (λ k b. absurd (true≢false b))
        (λ k b. absurd (true≢false b))
        (λ b. refl)
        h)

-- a template's field that is data or the wildcard is no bound, and a template may carry it
pub no_bound : (x : Field) → (is_data x || is_wildcard x) ≡ true → is_bound x ≡ false
no_bound (message v) h = refl
no_bound (name n) h = refl
no_bound wildcard h = refl
no_bound (at_least v) h = sym h
no_bound (at_most v) h = sym h
no_bound bad h = refl

pub data-carried : (x : Field) → (is_data x || is_wildcard x) ≡ true → (is_data x || (is_wildcard x || is_bound x)) ≡ true
data-carried (message v) h = refl
data-carried (name n) h = refl
data-carried wildcard h = refl
data-carried (at_least v) h = refl
data-carried (at_most v) h = refl
data-carried bad h = h
