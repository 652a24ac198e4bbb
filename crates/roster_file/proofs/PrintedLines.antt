-- What is printed of a roster, line by line: a line for each right that it has.
use Prim.Native.Nat.{ℕ, ◌+◌, ◌<◌}
use mathlib.Core.Path.{◌≡◌, refl, sym, ap, ◌∙◌, subst}
use mathlib.Core.Logic.{◌⊎◌, inl, inr}
use mathlib.Core.Bool.{true, not}
use mathlib.Core.List.{List, [], ◌∷◌, ◌++◌, map, append_assoc}
use lib.Dec.{eqb}
use lib.ListN.{get_or}
use Rattle.rules.specs.Lists.{In}
use Rattle.rules.specs.Names.{parties, Name, partition, key, bits_in, held_in}
use Rattle.rules.proofs.Members.{in_left, in_right, append-in, in_map, map-in}
use Rattle.rules.proofs.SetLaws.{in-bits, bits_in_lem}
use Rattle.rules.proofs.Loops.{all_append}
use Rattle.numbers.specs.Numbers.{decimal, key_of}
use Rattle.numbers.specs.Parts.{parts}
use Rattle.numbers.proofs.NumbersBack.{free, decimal-free, key-free, part_then}
use Rattle.roster_line.specs.Rights.{bit_of}
use Rattle.roster_file.specs.File.{names_line}
use Rattle.roster_file.specs.Printed.{names_in, name_text, right_text, names_text, party_text, parties_text, printed}

-- ---- the names in two words

pub in-names : (ps ks : ℕ) (n : Name) → bit_of n < 64 → held_in ps ks n ≡ true → In n (names_in ps ks)
unfolding held_in
in-names ps ks (partition c) h e =
    in_left (partition c) (map partition (bits_in ps)) (map key (bits_in ks)) (in_map partition c (bits_in ps) (in-bits ps c h e))
in-names ps ks (key s) h e =
    in_right (key s) (map partition (bits_in ps)) (map key (bits_in ks)) (in_map key s (bits_in ks) (in-bits ks s h e))

pub names_in_lem : (ps ks : ℕ) (n : Name) → In n (names_in ps ks) → (bit_of n < 64) × (held_in ps ks n ≡ true)
unfolding held_in
names_in_lem ps ks n h = go (append-in n (map partition (bits_in ps)) (map key (bits_in ks)) h)
  where
    go : In n (map partition (bits_in ps)) ⊎ In n (map key (bits_in ks)) → (bit_of n < 64) × (held_in ps ks n ≡ true)
    go (inl i) =
        let m = map-in partition n (bits_in ps) i in
        subst (λ (x : Name). (bit_of x < 64) × (held_in ps ks x ≡ true)) m.1.1 (bits_in_lem ps m.0 m.1.0)
    go (inr i) =
        let m = map-in key n (bits_in ks) i in
        subst (λ (x : Name). (bit_of x < 64) × (held_in ps ks x ≡ true)) m.1.1 (bits_in_lem ks m.0 m.1.0)

-- ---- the lines

-- the names that the roster's words give a party
abbrev pub names_of : List ℕ → ℕ → List Name
names_of roster who = names_in (get_or roster who 0) (get_or roster (8 + who) 0)

abbrev pub lines_of : List ℕ → List ℕ → List (List ℕ)
lines_of roster [] = []
lines_of roster (who ∷ whos) = map (right_text who) (names_of roster who) ++ lines_of roster whos

-- the line of a right of one of the parties
pub record LineOf (roster whos line : List ℕ) : Type 0 where
  pub who : ℕ
  pub name : Name
  pub party : In who whos
  pub held : In name (names_of roster who)
  pub text : right_text who name ≡ line

pub in_lines : (roster whos : List ℕ) (who : ℕ) (n : Name) → In who whos → In n (names_of roster who) → In (right_text who n) (lines_of roster whos)
in_lines roster [] who n i k = absurd i
in_lines roster (q ∷ whos) who n (inl e) k =
    in_left (right_text who n) (map (right_text q) (names_of roster q)) (lines_of roster whos) (rw e (in_map (right_text who) n (names_of roster who) k))
in_lines roster (q ∷ whos) who n (inr i) k =
    in_right (right_text who n) (map (right_text q) (names_of roster q)) (lines_of roster whos) (in_lines roster whos who n i k)

pub lines-in : (roster whos : List ℕ) (line : List ℕ) → In line (lines_of roster whos) → LineOf roster whos line
lines-in roster [] line h = absurd h
lines-in roster (q ∷ whos) line h = go (append-in line (map (right_text q) (names_of roster q)) (lines_of roster whos) h) (lines-in roster whos line)
  where
    go : In line (map (right_text q) (names_of roster q)) ⊎ In line (lines_of roster whos) → (In line (lines_of roster whos) → LineOf roster whos line)
        → LineOf roster (q ∷ whos) line
    go (inl i) more = let m = map-in (right_text q) line (names_of roster q) i in record { who = q; name = m.0; party = inl refl; held = m.1.0; text = m.1.1 }
    go (inr i) more = let m = more i in record { who = m.who; name = m.name; party = inr m.party; held = m.held; text = m.text }

-- ---- they are the parts of what is printed

name_free : (n : Name) → free 10 (name_text n) ≡ true
name_free (partition c) = decimal-free 10 refl c
name_free (key s) = key-free 10 (record { digit = refl; minus = refl }) (key_of s)

pub right-free : (who : ℕ) (n : Name) → free 10 (right_text who n) ≡ true
unfolding right_text
right-free who n = all_append (λ b. not (eqb b 10)) (decimal who) (32 ∷ name_text n) ∙ rw (decimal-free 10 refl who) (name_free n)

names-parts : (who : ℕ) (ns : List Name) (rest : List ℕ) → parts 10 (names_text who ns ++ rest) ≡ map (right_text who) ns ++ parts 10 rest
names-parts who [] rest = refl
names-parts who (n ∷ ns) rest =
    ap (parts 10) (append_assoc (right_text who n) (10 ∷ names_text who ns) rest)
    ∙ part_then 10 (right_text who n) (names_text who ns ++ rest) (right-free who n)
    ∙ ap (λ (ls : List (List ℕ)). right_text who n ∷ ls) (names-parts who ns rest)

pub parties-parts : (roster whos : List ℕ) → parts 10 (parties_text roster whos) ≡ lines_of roster whos ++ ([] ∷ [])
unfolding party_text
parties-parts roster [] = refl
parties-parts roster (who ∷ whos) =
    names-parts who (names_of roster who) (parties_text roster whos)
    ∙ ap (λ (ls : List (List ℕ)). map (right_text who) (names_of roster who) ++ ls) (parties-parts roster whos)
    ∙ sym (append_assoc (map (right_text who) (names_of roster who)) (lines_of roster whos) ([] ∷ []))

-- the names line, a line for each right, and nothing after the last line feed
pub printed-parts : (roster : List ℕ) → parts 10 (printed roster) ≡ names_line ∷ (lines_of roster parties ++ ([] ∷ []))
unfolding printed names_line
printed-parts roster =
    part_then 10 names_line (parties_text roster parties) refl ∙ ap (λ (ls : List (List ℕ)). names_line ∷ ls) (parties-parts roster parties)
