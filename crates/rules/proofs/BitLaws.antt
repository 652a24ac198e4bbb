-- The bit c of a word, after the bit d is added.
use mathlib.Core.Path.{◌≡◌, refl, sym, ap, ◌∙◌, subst}
use mathlib.Core.Logic.{◌⊎◌, inl, inr}
use mathlib.Core.Bool.{Bool, true, false}
use mathlib.Core.List.{List, [], ◌∷◌}
use Prim.Native.Nat.{ℕ, zero, suc, ◌+◌, ◌-◌, ◌*◌, ◌/◌, ◌%◌, ◌^◌, ◌≤◌, ◌<◌, max}
use native.Mathlib.Nat.{mod-lt, div-eq_of_lt, lt_of_lt_of_le, mul-mod_left, le_of_suc-le-suc, pow-suc, zero-lt-suc, one-mul, zero-div}
use native.Mathlib.Nat.{max-le, max-eq_left, max-eq_right, zero-max}
use native.Mathlib.Decide.{dec_lt}
use native.Mathlib.Omega.{arith}
use Prim.Native.Nat.{suc-le-suc}
use lib.Dec.{T, eqb, eqb→eq, eqb_refl}
use lib.Arith.{digits_mod}
use lib.Pow.{pow-lt, pow-add, pow_mono, shl-shr}
use lib.Bits.{bit_or, or_shr, or_step}
use lib.ListN.{get_or, set}
use Rattle.rules.specs.Names.{bit, with_bit}

abbrev pub t_of : {b : Bool} → b ≡ true → T b
t_of e = subst T (sym e) tt

pub of_t : (b : Bool) → T b → b ≡ true
of_t true t = refl
of_t false t = absurd t

pub eqb-true : (m n : ℕ) → eqb m n ≡ true → m ≡ n
eqb-true m n e = eqb→eq m n (t_of e)

pub eqb_same : (m : ℕ) → eqb m m ≡ true
eqb_same m = of_t (eqb m m) (eqb_refl m)

pub zero_bit : (c : ℕ) → bit 0 c ≡ false
zero_bit c = rw (zero-div (2 ^ c)) refl

max-lt2 : (a b : ℕ) → a < 2 → b < 2 → max a b < 2
max-lt2 a b h k = suc-le-suc (max-le (le_of_suc-le-suc h) (le_of_suc-le-suc k))

or-digit : (a b : ℕ) → bit_or a b % 2 ≡ max (a % 2) (b % 2)
or-digit a b =
    ap (λ (x : ℕ). x % 2) (or_step a b)
    ∙ digits_mod (bit_or (a / 2) (b / 2)) (max-lt2 (a % 2) (b % 2) (mod-lt a (zero-lt-suc 1)) (mod-lt b (zero-lt-suc 1)))

pub or-bit : (w v d : ℕ) → bit_or w v / 2 ^ d % 2 ≡ max (w / 2 ^ d % 2) (v / 2 ^ d % 2)
or-bit w v d = ap (λ (x : ℕ). x % 2) (or_shr w v d) ∙ or-digit (w / 2 ^ d) (v / 2 ^ d)

-- 2 ^ c has no bit but c
pub pow-bit : (c d : ℕ) → 2 ^ c / 2 ^ d % 2 ≡ 1 → c ≡ d
pow-bit c d e = go (dec_lt c d) (dec_lt d c)
  where
    go : Dec (c < d) → Dec (d < c) → c ≡ d
    go (yes h) k = let z : 2 ^ c / 2 ^ d ≡ 0 = div-eq_of_lt (pow-lt h) in
        let y : ◌≡◌ {A = ℕ} 0 1 = ap (λ (x : ℕ). x % 2) (sym z) ∙ e in absurd (omega arith)
    go (no h) (yes k) =
        let m : ℕ = c - suc d in
        let s : c ≡ suc m + d = omega arith in
        let z : 2 ^ c / 2 ^ d ≡ 2 ^ m * 2 =
        ap (λ (x : ℕ). 2 ^ x / 2 ^ d) s ∙ ap (λ (x : ℕ). x / 2 ^ d) (pow-add 2 (suc m) d) ∙ shl-shr (2 ^ suc m) d ∙ pow-suc 2 m in
        let y : ◌≡◌ {A = ℕ} 0 1 = sym (mul-mod_left (2 ^ m) 2) ∙ ap (λ (x : ℕ). x % 2) (sym z) ∙ e in absurd (omega arith)
    go (no h) (no k) = omega arith

max-one : (a b : ℕ) → a < 2 → max a b ≡ 1 → (a ≡ 1) ⊎ (b ≡ 1)
max-one zero b h e = inr (sym (zero-max b) ∙ e)
max-one (suc zero) b h e = inl refl
max-one (suc (suc a)) b h e = absurd (omega arith)

pub bit-with : (w c d : ℕ) → bit (with_bit w c) d ≡ true → (bit w d ≡ true) ⊎ (c ≡ d)
bit-with w c d h =
    let e : max (w / 2 ^ d % 2) (2 ^ c / 2 ^ d % 2) ≡ 1 = sym (or-bit w (2 ^ c) d) ∙ eqb-true (with_bit w c / 2 ^ d % 2) 1 h in
    go (max-one (w / 2 ^ d % 2) (2 ^ c / 2 ^ d % 2) (mod-lt (w / 2 ^ d) (zero-lt-suc 1)) e)
  where
    go : (w / 2 ^ d % 2 ≡ 1) ⊎ (2 ^ c / 2 ^ d % 2 ≡ 1) → (bit w d ≡ true) ⊎ (c ≡ d)
    go (inl e) = inl (rw e refl)
    go (inr e) = inr (pow-bit c d e)

-- one word of a list of words has a bit added: what bits the words have then
pub bit-set : (l : List ℕ) (who p c d : ℕ) → bit (get_or (set l who (with_bit (get_or l who 0) c)) p 0) d ≡ true → (bit (get_or l p 0) d ≡ true) ⊎ (c ≡ d)
bit-set [] who p c d h = inl h
bit-set (x ∷ l) zero zero c d h = bit-with x c d h
bit-set (x ∷ l) zero (suc p) c d h = inl h
bit-set (x ∷ l) (suc who) zero c d h = inl h
bit-set (x ∷ l) (suc who) (suc p) c d h = bit-set l who p c d h

pub bit_kept : (w c d : ℕ) → bit w d ≡ true → bit (with_bit w c) d ≡ true
bit_kept w c d h =
    let e : w / 2 ^ d % 2 ≡ 1 = eqb-true (w / 2 ^ d % 2) 1 h in
    let l : 2 ^ c / 2 ^ d % 2 < 2 = mod-lt (2 ^ c / 2 ^ d) (zero-lt-suc 1) in
    rw (or-bit w (2 ^ c) d, e, max-eq_left {n = 1} (le_of_suc-le-suc l)) refl

pow-one : (c : ℕ) → 2 ^ c / 2 ^ c ≡ 1
pow-one c = ap (λ (x : ℕ). x / 2 ^ c) (sym (one-mul (2 ^ c))) ∙ shl-shr 1 c

-- 2 ^ c has the bit c
pub pow_self : (c : ℕ) → bit (2 ^ c) c ≡ true
pow_self c = rw (pow-one c) refl

pub bit-self : (w c : ℕ) → bit (with_bit w c) c ≡ true
bit-self w c =
    let l : w / 2 ^ c % 2 < 2 = mod-lt (w / 2 ^ c) (zero-lt-suc 1) in
    let o : 2 ^ c / 2 ^ c ≡ 1 = pow-one c in
    rw (or-bit w (2 ^ c) c, o, max-eq_right {m = 1} (le_of_suc-le-suc l)) refl

pub bit-set-kept : (l : List ℕ) (who p c d : ℕ) → bit (get_or l p 0) d ≡ true → bit (get_or (set l who (with_bit (get_or l who 0) c)) p 0) d ≡ true
bit-set-kept [] who p c d h = h
bit-set-kept (x ∷ l) zero zero c d h = bit_kept x c d h
bit-set-kept (x ∷ l) zero (suc p) c d h = h
bit-set-kept (x ∷ l) (suc who) zero c d h = h
bit-set-kept (x ∷ l) (suc who) (suc p) c d h = bit-set-kept l who p c d h

-- a word of n bits has no bit past them
pub no-bit : (n w c : ℕ) → w < 2 ^ n → n ≤ c → false ≡ bit w c
no-bit n w c h l = let z : w / 2 ^ c ≡ 0 = div-eq_of_lt (lt_of_lt_of_le h (pow_mono l)) in rw z
