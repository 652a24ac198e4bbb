-- Looks: they change no word, answer as receives do, and from elsewhere are not felt.
use mathlib.Core.Path.{◌≡◌, refl}
use mathlib.Core.Logic.{◌⊎◌, inl, inr}
use mathlib.Core.Bool.{true, false, not, ◌||◌, false≢true}
use mathlib.Core.Option.{Option, none, some}
use mathlib.Core.List.{List, [], ◌∷◌}
use Prim.Native.Nat.{ℕ}
use lib.IntN.{ℤ}
use lib.ListN.{length}
use Rattle.rules.specs.Lists.{first}
use Rattle.rules.specs.Partitions.{sets}
use Rattle.rules.specs.Matching.{Pair, stored_pair, Entry, looking, receiving, taking, matches}
use Rattle.rules.specs.State.{State}
use Rattle.rules.specs.Calls.{Call, put, seek, first_that_applies, finding, serve}
use Rattle.rules.specs.Words.{decode, call, refusals}
use Rattle.rules.specs.Runs.{Line, recorded}
use Rattle.rules.specs.Group.{by_group, is_look, LooksUnfelt, LooksAreFree}
use Rattle.rules.specs.Claims.{LookChangesNoWord, LookAnswersAsReceive}
use Rattle.rules.proofs.ListLaws.{bool, or_left, or_right, not-false}
use Rattle.rules.proofs.Back.{encode-decode}
use Rattle.rules.proofs.Decided.{call_by, call-by, passes-sound}

look-leaves : (s : State) (who : ℕ) (p : Pair ℤ) (t : List ℕ) (room : ℕ) → (serve sets s (seek looking who p t room)).state ≡ s
look-leaves s who p t room = go (first (matches sets looking (stored_pair p) t) s.entries)
  where
    go : (o : Option Entry) → (finding looking who o s.entries s).state ≡ s
    go none = refl
    go (some x) = refl

pub look-changes-no-word : LookChangesNoWord
look-changes-no-word ws who p t result = rw (call-by ws c) (go (first_that_applies (refusals ws c)) refl)
  where
    c : Call (List ℕ)
    c = seek looking who p t result

    go : (o : Option ℕ) → first_that_applies (refusals ws c) ≡ o → (call_by o ws c).space ≡ ws
    go (some n) e = refl
    go none e = rw (look-leaves (decode ws) who p t (length result)) (encode-decode ws (passes-sound ws c e))

pub look-answers-as-receive : LookAnswersAsReceive
unfolding matches
look-answers-as-receive ws who p t result = rw (call-by ws look, call-by ws receive) (go (first_that_applies (refusals ws look)))
  where
    look : Call (List ℕ)
    look = seek looking who p t result

    receive : Call (List ℕ)
    receive = seek receiving who p t result

    es : List Entry
    es = (decode ws).entries

    same : (o : Option Entry) → ((finding looking who o es (decode ws)).answer ≡ (finding receiving who o es (decode ws)).answer)
        × ((finding looking who o es (decode ws)).fields ≡ (finding receiving who o es (decode ws)).fields)
    same none = (refl, refl)
    same (some x) = (refl, refl)

    go : (o : Option ℕ) → ((call_by o ws look).answer ≡ (call_by o ws receive).answer) × ((call_by o ws look).result ≡ (call_by o ws receive).result)
    go (some n) = (refl, refl)
    go none = let q = same (first (matches sets looking (stored_pair p) t) es) in (q.0, rw q.1 refl)

-- ---- looks from elsewhere

-- what one look leaves
look-words : (ws : List ℕ) (c : Call (List ℕ)) → is_look c ≡ true → (call ws c).space ≡ ws
look-words ws (put who r t fs) e = absurd (false≢true e)
look-words ws (seek looking who p t result) e = look-changes-no-word ws who p t result
look-words ws (seek receiving who p t result) e = absurd (false≢true e)
look-words ws (seek taking who p t result) e = absurd (false≢true e)

look-recorded : (c : Call (List ℕ)) (ls : List Line) → is_look c ≡ true → (a : _) → recorded c a ls ≡ ls
look-recorded (put who r t fs) ls e a = absurd (false≢true e)
look-recorded (seek looking who p t result) ls e a = refl
look-recorded (seek receiving who p t result) ls e a = refl
look-recorded (seek taking who p t result) ls e a = absurd (false≢true e)

pub looks-are-free : LooksAreFree
looks-are-free g ws [] = record { same_replies = refl; same_words = refl; same_ledger = λ ls. refl }
looks-are-free g ws (c ∷ cs) = go (bool (by_group g c || not (is_look c))) (looks-are-free g (call ws c).space cs)
  where
    go : ((by_group g c || not (is_look c)) ≡ true) ⊎ ((by_group g c || not (is_look c)) ≡ false)
        → LooksUnfelt g (call ws c).space cs → LooksUnfelt g ws (c ∷ cs)
    go (inl kept) h =
        record {
          same_replies = rw (kept, h.same_replies) refl;
          same_words = rw kept h.same_words;
          same_ledger = λ ls. rw kept (h.same_ledger (recorded c (call ws c).answer ls));
        }
    go (inr dropped) h =
        let theirs : by_group g c ≡ false = or_left (by_group g c) (not (is_look c)) dropped in
        let look : is_look c ≡ true = not-false (is_look c) (or_right (by_group g c) (not (is_look c)) dropped) in
        let stays : (call ws c).space ≡ ws = look-words ws c look in
        let h' : LooksUnfelt g ws cs = rw stays at h in
        record {
          same_replies = rw (dropped, theirs, stays) h'.same_replies;
          same_words = rw (dropped, stays) h'.same_words;
          same_ledger = λ ls. rw (dropped, stays, look-recorded c ls look (call ws c).answer) (h'.same_ledger ls);
        }
