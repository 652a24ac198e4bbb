-- Who holds what: after an opening, after a search that found something, and after a put.
use mathlib.Core.Path.{◌≡◌, refl, sym, ap, ◌∙◌}
use mathlib.Core.Logic.{◌⊎◌, inl, inr, ◌≢◌}
use mathlib.Core.Bool.{Bool, true}
use mathlib.Core.List.{List}
use Prim.Native.Nat.{ℕ}
use lib.ListN.{drop}
use lib.Seq.{take_at}
use Rattle.rules.specs.Lists.{In}
use Rattle.rules.specs.Names.{Name, key, co_key, stored, common_names}
use Rattle.rules.specs.Partitions.{sets}
use Rattle.rules.specs.Fields.{names_in}
use Rattle.rules.specs.Matching.{stored_pair, Entry, Op, looking, receiving, taking, matches}
use Rattle.rules.specs.State.{State, holds, give_all, with_entries}
use Rattle.rules.specs.Calls.{Call, put, seek, remaining, gained, opened}
use Rattle.rules.specs.Words.{decode, asked, call, opening}
use Rattle.rules.specs.Claims.{Iff, OpeningHoldings, found_names, Gains, FoundGives, CarriedKeyAlone, PutGivesNothing}
use Rattle.rules.proofs.ListLaws.{bool, clash}
use Rattle.rules.proofs.Rows.{WF}
use Rattle.rules.proofs.Kept.{party-ok}
use Rattle.rules.proofs.Back.{wf-decode}
use Rattle.rules.proofs.Gifts.{EightEach, holds_same, give_all-other, holds-give_all, give_all-kept, give_all-has}
use Rattle.rules.proofs.Openings.{opened-entries, opened-holds}
use Rattle.rules.proofs.WordRuns.{back, Opened, open_done}
use Rattle.rules.proofs.Decided.{passes-sound, passes-table, call-leaves}
use Rattle.rules.proofs.Demand2.{Found, found-by}

-- ---- after an opening

pub opening-holdings : OpeningHoldings
unfolding opened
opening-holdings ws roster d =
    record {
      no_entry = rw left (opened-entries roster);
      holdings = λ who n l. rw left (opened-holds common_names roster who n l o.sixteen);
    }
  where
    o : Opened (opening ws roster) roster
    o = open_done ws roster d

    left : decode (opening ws roster).space ≡ opened roster
    left = ap decode o.words ∙ back (opened roster) o.wf

-- ---- after a search

pub found-gives : FoundGives
unfolding holds
found-gives ws op who p t result n no-look a =
    record {
      own = λ m. rw (f.left, names) (own m);
      others = λ q m ne. rw f.left (holds_same q (give_all who ns s) (decode ws) (give_all-other who q ns s ne) m);
    }
  where
    c : Call (List ℕ)
    c = seek op who p t result

    f : Found ws op who p t result n
    f = found-by ws op who p t result n a

    ns : List Name
    ns = gained op f.entry

    all_of : (op : Op) (e : Entry) → op ≢ looking → gained op e ≡ names_in e.fields
    all_of looking e h = absurd (h refl)
    all_of receiving e h = refl
    all_of taking e h = refl

    s : State
    s = with_entries (remaining op (matches sets op (stored_pair p) t) (decode ws).entries) (decode ws)

    names : found_names ws c n ≡ ns
    names = rw (f.written, take_at f.entry.fields (drop n result) n (sym f.count)) (sym (all_of op f.entry no-look))

    eight : EightEach s
    eight = let w : WF (decode ws) = wf-decode ws (passes-sound ws c f.passes) in (w.partitions_len, w.keys_len)

    own : (m : Name) → Iff (holds (give_all who ns s) who m ≡ true) ((holds (decode ws) who m ≡ true) ⊎ In m ns)
    own m = (holds-give_all who who ns m s, there)
      where
        there : (holds (decode ws) who m ≡ true) ⊎ In m ns → holds (give_all who ns s) who m ≡ true
        there (inl h) = give_all-kept who who ns m s h
        there (inr i) = give_all-has who ns m s (party-ok (decode ws) (asked c) (passes-table ws c f.passes)) eight i

pub carried-key-alone : CarriedKeyAlone
carried-key-alone ws op who p t result n k no-look a i h ni =
    ((g.own (key (stored k))).1 (inr i), elim (bool b) [ inl e ↦ absurd (never ((g.own co).0 e)) | inr e ↦ e ])
  where
    g : Gains who (found_names ws (seek op who p t result) n) ws (call ws (seek op who p t result)).space
    g = found-gives ws op who p t result n no-look a

    co : Name
    co = key (stored (co_key k))

    b : Bool
    b = holds (decode (call ws (seek op who p t result)).space) who co

    never : (holds (decode ws) who co ≡ true) ⊎ In co (found_names ws (seek op who p t result) n) → ⊥
    never (inl e) = clash (holds (decode ws) who co) e h
    never (inr j) = ni j

-- ---- after a put

pub put-gives-nothing : PutGivesNothing
put-gives-nothing ws who r t fs p n =
    call-leaves (λ s. holds s p n ≡ holds (decode ws) p n) ws (put who r t fs) refl (λ e. holds_same p _ (decode ws) (refl, refl) n)
