-- How many bytes are printed of a roster, of whatever words it is: a line has at most 8 with its line feed, a word 64 names.
use Prim.Native.Nat.{ℕ, ◌+◌, ◌*◌, ◌≤◌, ◌<◌}
use mathlib.Core.List.{List, [], ◌∷◌, map}
use native.Mathlib.Nat.{le_refl}
use native.Mathlib.Omega.{arith}
use lib.ListN.{length, get_or, length-append, length-map}
use Rattle.rules.specs.Lists.{All, from}
use Rattle.rules.specs.Names.{parties, Name, partition, key, bit, bits_in}
use Rattle.numbers.specs.Numbers.{decimal}
use Rattle.numbers.proofs.Keys.{decimal-short, key-short}
use Rattle.roster_line.specs.Rights.{bit_of}
use Rattle.roster_file.specs.File.{names_line}
use Rattle.roster_file.specs.Printed.{name_text, right_text, names_text, party_text, parties_text, printed}
use Rattle.rules.proofs.Members.{keep-short, All-in, from_in}
use Rattle.roster_file.proofs.PrintedLines.{names_in_lem, names_of}

name-short : (n : Name) → bit_of n < 64 → length (name_text n) ≤ 5
name-short (partition c) h = let l = decimal-short 1 c (omega arith) in omega arith
name-short (key s) h = let l = key-short s h in omega arith

pub right-short : (who : ℕ) (n : Name) → who < 8 → bit_of n < 64 → length (right_text who n) ≤ 7
unfolding right_text
right-short who n h k =
    let e = length-append (decimal who) (32 ∷ name_text n) in
    let a = decimal-short 0 who (omega arith) in
    let b = name-short n k in
    omega arith

names-short : (who : ℕ) → who < 8 → (ns : List Name) → All (λ n. bit_of n < 64) ns → length (names_text who ns) ≤ 8 * length ns
names-short who h [] k = le_refl 0
names-short who h (n ∷ ns) k =
    let e = length-append (right_text who n) (10 ∷ names_text who ns) in
    let a = right-short who n h k.0 in
    let b = names-short who h ns k.1 in
    omega arith

bits-short : (w : ℕ) → length (bits_in w) ≤ 64
unfolding bits_in
bits-short w = keep-short (bit w) (from 0 64)

pub names-few : (roster : List ℕ) (who : ℕ) → length (names_of roster who) ≤ 128
names-few roster who =
    let ps : List ℕ = bits_in (get_or roster who 0) in
    let ks : List ℕ = bits_in (get_or roster (8 + who) 0) in
    let e = length-append (map partition ps) (map key ks) in
    let a = length-map ps partition in
    let b = length-map ks key in
    let c = bits-short (get_or roster who 0) in
    let d = bits-short (get_or roster (8 + who) 0) in
    omega arith

pub party-short : (roster : List ℕ) (who : ℕ) → who < 8 → length (party_text roster who) ≤ 1024
unfolding party_text
party-short roster who h =
    let ns : List Name = names_of roster who in
    let k : All (λ n. bit_of n < 64) ns = All-in (λ n. bit_of n < 64) ns (λ n i. (names_in_lem (get_or roster who 0) (get_or roster (8 + who) 0) n i).0) in
    let a = names-short who h ns k in
    let b = names-few roster who in
    omega arith

pub parties-short : (roster whos : List ℕ) → All (λ who. who < 8) whos → length (parties_text roster whos) ≤ 1024 * length whos
parties-short roster [] h = le_refl 0
parties-short roster (who ∷ whos) h =
    let e = length-append (party_text roster who) (parties_text roster whos) in
    let a = party-short roster who h.0 in
    let b = parties-short roster whos h.1 in
    omega arith

pub printed-short : (roster : List ℕ) → length (printed roster) ≤ 8208
unfolding printed names_line
printed-short roster = let a = parties-short roster parties (All-in (λ who. who < 8) parties (λ who i. from_in who 0 8 i)) in omega arith
