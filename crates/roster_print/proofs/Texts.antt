-- The texts that are printed, by the parts that the code writes one after another.
use Prim.Native.Nat.{ℕ, suc, ◌+◌, ◌-◌, ◌≤◌, ◌<◌}
use mathlib.Core.Path.{◌≡◌, refl, sym, ap, ◌∙◌, subst}
use mathlib.Core.Bool.{true, false}
use mathlib.Core.List.{List, [], ◌∷◌, ◌++◌, map, append_assoc}
use native.Mathlib.Numerals.{add-one}
use native.Mathlib.Omega.{arith}
use lib.ListN.{get_or}
use Rattle.rules.specs.Lists.{keep, from}
use Rattle.rules.specs.Names.{parties, Name, partition, key, bit, bits_in}
use Rattle.numbers.specs.Numbers.{decimal}
use Rattle.numbers.proofs.Placed.{Unfinished}
use Rattle.roster_file.specs.File.{names_line}
use Rattle.roster_file.specs.Printed.{name_text, right_text, names_text, party_text, parties_text, printed}
use Rattle.roster_print.specs.Answers.{named}
use Rattle.roster_print.specs.declared.Kind.TheVariants as kind

-- what is left, as its parts
pub left_as : {out₀ : List ℕ} {at₀ : ℕ} {whole out : List ℕ} {at : ℕ} (xs ys : List ℕ) → xs ≡ ys
    → Unfinished out₀ at₀ whole out at xs → Unfinished out₀ at₀ whole out at ys
left_as {out₀} {at₀} {whole} {out} {at} xs ys e u = subst (λ (t : List ℕ). Unfinished out₀ at₀ whole out at t) e u

pub right-parts : (who : ℕ) (n : Name) → right_text who n ++ (10 ∷ []) ≡ decimal who ++ ((32 ∷ []) ++ (name_text n ++ (10 ∷ [])))
unfolding right_text
right-parts who n = append_assoc (decimal who) (32 ∷ name_text n) (10 ∷ [])

-- ---- the names of a word, bit by bit

-- those from bit c on
unfoldable pub names_from : ℕ → (ℕ → Name) → ℕ → ℕ → List ℕ
names_from who name w c = names_text who (map name (keep (bit w) (from c (64 - c))))

module _ (who : ℕ) (name : ℕ → Name) (w : ℕ) where
  pub all-names : names_text who (map name (bits_in w)) ≡ names_from who name w 0
  unfolding names_from bits_in
  all-names = refl

  counted : (c : ℕ) → c < 64 → from c (64 - c) ≡ c ∷ from (suc c) (64 - suc c)
  counted c h = let e : 64 - c ≡ suc (64 - suc c) = omega arith in ap (from c) e

  pub bit-named : (c : ℕ) → c < 64 → bit w c ≡ true → names_from who name w c ≡ (right_text who (name c) ++ (10 ∷ [])) ++ names_from who name w (c + 1)
  unfolding names_from
  bit-named c h e =
      ap (λ (l : List ℕ). names_text who (map name (keep (bit w) l))) (counted c h)
      ∙ rw (e, add-one) (sym (append_assoc (right_text who (name c)) (10 ∷ []) (names_text who (map name (keep (bit w) (from (suc c) (64 - suc c)))))))

  pub bit-passed : (c : ℕ) → c < 64 → bit w c ≡ false → names_from who name w c ≡ names_from who name w (c + 1)
  unfolding names_from
  bit-passed c h e = ap (λ (l : List ℕ). names_text who (map name (keep (bit w) l))) (counted c h) ∙ rw (e, add-one)

  pub no_names : (c : ℕ) → 64 ≤ c → names_from who name w c ≡ []
  unfolding names_from
  no_names c h = let e : 64 - c ≡ 0 = omega arith in rw e

-- ---- a party's two words

names-append : (who : ℕ) (ms ns : List Name) → names_text who (ms ++ ns) ≡ names_text who ms ++ names_text who ns
names-append who [] ns = refl
names-append who (m ∷ ms) ns =
    ap (λ (l : List ℕ). right_text who m ++ (10 ∷ l)) (names-append who ms ns)
    ∙ sym (append_assoc (right_text who m) (10 ∷ names_text who ms) (names_text who ns))

pub party-parts : (roster : List ℕ) (who : ℕ)
    → party_text roster who
    ≡ names_text who (map (named kind.Partition) (bits_in (get_or roster who 0))) ++ names_text who (map (named kind.Key) (bits_in (get_or roster (8 + who) 0)))
unfolding party_text
party-parts roster who = names-append who (map partition (bits_in (get_or roster who 0))) (map key (bits_in (get_or roster (8 + who) 0)))

-- ---- party by party

-- the lines of the parties from one on
unfoldable pub parties_from : List ℕ → ℕ → List ℕ
parties_from roster who = parties_text roster (from who (8 - who))

pub all-parties : (roster : List ℕ) → printed roster ≡ (names_line ++ (10 ∷ [])) ++ parties_from roster 0
unfolding printed parties_from
all-parties roster = sym (append_assoc names_line (10 ∷ []) (parties_text roster parties))

pub one-party : (roster : List ℕ) (who : ℕ) → who < 8 → parties_from roster who ≡ party_text roster who ++ parties_from roster (who + 1)
unfolding parties_from
one-party roster who h = let e : 8 - who ≡ suc (8 - suc who) = omega arith in rw add-one (ap (λ (n : ℕ). parties_text roster (from who n)) e)

pub no-parties : (roster : List ℕ) (who : ℕ) → 8 ≤ who → parties_from roster who ≡ []
unfolding parties_from
no-parties roster who h = let e : 8 - who ≡ 0 = omega arith in rw e
