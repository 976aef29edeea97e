-- The promise is about something: a group of one is reached in which its member accepted a word, gave it out and moved to its next view. Assumes nothing.
use mathlib.Core.Path.{◌≡◌, refl, sym}
use mathlib.Core.List.Memᴰ
use mathlib.Core.List.{List, [], ◌∷◌}
use mathlib.Core.Bool.{Bool, true, false, cond, ◌&&◌, false≢true}
use mathlib.Core.Logic.{◌⊎◌, inl, inr}
use mathlib.Core.Option.{Option, none, some, some-ne-none, some-injective}
use Prim.Native.Nat.{ℕ, zero, suc, ◌<◌}
use native.Mathlib.Omega.{arith}
use lib.Dec.{eqb}
use borrow.Author.Tests.{eqb-true, eq-eqb}
use Rattle.below.specs.Below.{largest_below}
use Rattle.automaton.specs.Domain.{Domain}
use Rattle.automaton.specs.State.{Record, Records, Words, Log, OutLog, State, blocked, unblocked, with_words, with_accepted, with_start, with_membership, with_block, with_records, with_given, with_entered}
use Rattle.automaton.specs.Agreed.{carries, commits, named, in_t, agreed}
use Rattle.automaton.specs.Actions.{Message, sync_msg, quiet, sends, Action, send, block_ok, start_change, membership_view, sync, give_out, install}
use Rattle.automaton.specs.Group.{Group, act, Fresh, Reach, begin, then}
use Rattle.automaton.specs.Synchrony.{Moved, out_of}

-- ---- views of one member, whose start number is the view's id

pub record Own : Type 0 where
  pub id : ℕ
  pub owner : ℕ

both : (a b : Bool) → (a && b) ≡ true → (a ≡ true) × (b ≡ true)
both true b e = (refl, e)
both false b e = absurd (false≢true e)

abbrev pub same_own : Own → Own → Bool
same_own u v = eqb u.id v.id && eqb u.owner v.owner

pub same_own_lem : (u v : Own) → same_own u v ≡ true → u ≡ v
same_own_lem u v e =
    let k = both (eqb u.id v.id) (eqb u.owner v.owner) e in
    let p : u.id ≡ v.id = eqb-true _ _ k.0 in
    let q : u.owner ≡ v.owner = eqb-true _ _ k.1 in
    λ i. record { id = p i; owner = q i }

abbrev pub D : Domain
D = record {
  View = Own;
  Word = ℕ;
  id = λ v. v.id;
  has = λ v q. eqb q v.owner;
  start = λ v q. v.id;
  same = same_own;
  same_true = same_own_lem;
  same_self = λ u. rw (eq-eqb u.id u.id refl, eq-eqb u.owner u.owner refl) refl;
}

-- ---- the run: the tables as they stand once the word is accepted, committed to and given out

abbrev pub old : Own
old = record { id = 0; owner = 0 }

abbrev pub new : Own
new = record { id = 1; owner = 0 }

abbrev pub fresh : ℕ → State D
fresh p = record {
  current = record { id = 0; owner = p };
  membership = record { id = 0; owner = p };
  latest = 0;
  pending = false;
  block = unblocked;
  declared = λ q. true;
  announced = true;
  passed = 0;
  heard = λ q. record { id = 0; owner = q };
  received = λ q. 0;
  given = λ q. 0;
  records = λ m j. none;
  words = λ v r i. none;
  accepted = λ v. [];
  gave_out = λ v r. [];
  made = λ j. none;
  moves = [];
}

fresh_is : (p : ℕ) → Fresh D p (fresh p)
fresh_is p = record {
  alone = λ q e. eqb-true q p e;
  declared = λ q e. refl;
  passed = refl;
  pending = refl;
  given = λ q. refl;
  records = λ m j. refl;
  words = λ v q i. refl;
  accepted = λ v. refl;
  gave_out = λ v q. refl;
  made = λ j. refl;
  moves = refl;
}

-- member 0 in state s, the others fresh, nothing on its way
abbrev pub member : State D → ℕ → State D
member s zero = s
member s (suc p) = fresh (suc p)

abbrev pub group : State D → Group D
group s = record { member = member s; channel = λ a b. [] }

others : (s s' : State D) (q : ℕ) → (q ≡ 0 → ⊥) → member s' q ≡ member s q
others s s' zero ne = absurd (ne refl)
others s s' (suc q) ne = refl

abbrev pub commit : Record D
commit = record { view = old; cut = λ q. 1 }

abbrev pub recorded : Records D
recorded zero zero = none
recorded zero (suc zero) = some commit
recorded zero (suc (suc j)) = none
recorded (suc m) j = none

record_only : (j : ℕ) → (j ≡ 1 → ⊥) → recorded 0 j ≡ none
record_only zero ne = refl
record_only (suc zero) ne = absurd (ne refl)
record_only (suc (suc j)) ne = refl

record_cases : (m j : ℕ) (y : Record D) → recorded m j ≡ some y → (◌≡◌ {A = Option (Record D)} none (some y)) ⊎ ((m ≡ 0) × (j ≡ 1) × (y ≡ commit))
record_cases zero zero y e = inl e
record_cases zero (suc zero) y e = inr (refl, refl, sym (some-injective commit y e))
record_cases zero (suc (suc j)) y e = inl e
record_cases (suc m) j y e = inl e

abbrev pub count : ℕ → ℕ
count zero = 1
count (suc q) = 0

count_else : (q : ℕ) → (q ≡ 0 → ⊥) → count q ≡ 0
count_else zero ne = absurd (ne refl)
count_else (suc q) ne = refl

fresh_all : (p : ℕ) → Fresh D p (member (fresh 0) p)
fresh_all zero = fresh_is 0
fresh_all (suc p) = fresh_is (suc p)

unblocked_not : unblocked ≡ blocked → ⊥
unblocked_not e = let z : ◌≡◌ {A = ℕ} 0 1 = cc in omega arith

-- what is only in the old view is nothing elsewhere
elsewhere : {A : Type 0} (v : Own) (a b : A) → (v ≡ old → a ≡ b) → cond (same_own v old) a b ≡ b
elsewhere v a b f = go (same_own v old) refl
  where
    go : (t : Bool) → same_own v old ≡ t → cond t a b ≡ b
    go true e = f (same_own_lem v old e)
    go false e = refl

module _ (w : ℕ) where
  abbrev pub place : ℕ → ℕ → Option ℕ
  place zero zero = some w
  place zero (suc i) = none
  place (suc r) i = none

  place_else : (r i : ℕ) → (r ≡ 0 → i ≡ 0 → ⊥) → place r i ≡ none
  place_else zero zero ne = absurd (ne refl refl)
  place_else zero (suc i) ne = refl
  place_else (suc r) i ne = refl

  abbrev pub words : Words D
  words v r i = cond (same_own v old) (place r i) none

  abbrev pub accepted : Log D
  accepted v = cond (same_own v old) (w ∷ []) []

  abbrev pub out : ℕ → List ℕ
  out zero = w ∷ []
  out (suc r) = []

  out_else : (r : ℕ) → (r ≡ 0 → ⊥) → out r ≡ []
  out_else zero ne = absurd (ne refl)
  out_else (suc r) ne = refl

  abbrev pub gave_out : OutLog D
  gave_out v r = cond (same_own v old) (out r) []

  -- the states in turn: the word accepted, a change started, blocked, the sync made, the new view known, the word given out, the view entered
  abbrev pub sent : State D
  sent = with_accepted accepted (with_words words (fresh 0))

  abbrev pub started : State D
  started = with_start 1 (with_words words sent)

  abbrev pub blocking : State D
  blocking = with_block blocked started

  abbrev pub synced : State D
  synced = with_records recorded (recorded 0) blocking

  abbrev pub ready : State D
  ready = with_membership new synced

  abbrev pub gave : State D
  gave = with_given gave_out count ready

  abbrev pub moved : State D
  moved = with_entered (λ q. 0) (with_words words gave)

  send_acts : Action D 1 0 (fresh 0) sent quiet
  send_acts = send w 0 accepted words unblocked_not
      (record { below = λ i l. absurd (omega arith); stop = refl })
      (record { there = refl; else = λ u q i ne. elsewhere u (place q i) none (λ e. place_else q i (ne e)) })
      refl
      (λ v ne. elsewhere v (w ∷ []) [] (λ e. absurd (ne e)))

  start_acts : Action D 1 0 sent started quiet
  start_acts = start_change 1 words (omega arith) (λ v r i x e. e) (λ i. refl)

  sync_acts : Action D 1 0 blocking synced (sends (λ q. false) (sync_msg 1 commit))
  sync_acts = sync (λ q. false) commit recorded (recorded 0) refl refl refl refl (record { below = run_below_lem; stop = refl }) refl record_only refl record_cases
    where
      run_below_lem : (i : ℕ) → i < 1 → words old 0 i ≡ none → ⊥
      run_below_lem zero l e = some-ne-none w e
      run_below_lem (suc i) l e = absurd (omega arith)

  give_acts : Action D 1 0 ready gave quiet
  give_acts = give_out 0 w gave_out count refl refl refl count_else refl (λ v r ne. elsewhere v (out r) [] (λ e. out_else r (ne e)))

  install_acts : Action D 1 0 gave moved quiet
  unfolding agreed in_t named carries commits largest_below
  install_acts = install words (λ q. 0) (omega arith) refl refl refl refl held given (λ v r i x e. e) (λ q. refl)
    where
      held : (m : ℕ) → eqb m 0 ≡ true → eqb m 0 ≡ true → (x : Record D) × (recorded m 1 ≡ some x)
      held zero a b = (commit, refl)
      held (suc m) a b = let e : suc m ≡ 0 = eqb-true (suc m) 0 a in absurd (omega arith)

      given : (q : ℕ) → eqb q 0 ≡ true → count q ≡ agreed D 1 recorded old new q
      given zero a = refl
      given (suc q) a = let e : suc q ≡ 0 = eqb-true (suc q) 0 a in absurd (omega arith)

  -- one step more, with nothing on its way before or after
  quietly : (s s' : State D) → Action D 1 0 s s' quiet → Reach D 1 (group s) → Reach D 1 (group s')
  quietly s s' a r = then r (act 0 quiet (omega arith) a (others s s') (λ a b. refl))

  silently : (s s' : State D) (m : Message D) → Action D 1 0 s s' (sends (λ q. false) m) → Reach D 1 (group s) → Reach D 1 (group s')
  silently s s' m a r = then r (act 0 (sends (λ q. false) m) (omega arith) a (others s s') (λ b e. absurd (false≢true e), λ b e. refl, λ a b ne. refl))

  pub reached_alone : Reach D 1 (group moved)
  reached_alone =
      quietly gave moved install_acts (quietly ready gave give_acts (quietly synced ready (membership_view new) (silently blocking synced (sync_msg 1 commit) sync_acts
      (quietly started blocking block_ok (quietly sent started start_acts (quietly (fresh 0) sent send_acts (begin fresh_all (λ a b. refl))))))))

  pub moved_alone : Moved (group moved) 0 old new
  moved_alone = Memᴰ.head refl

  pub gave_alone : out_of (group moved) 0 old 0 ≡ w ∷ []
  gave_alone = refl
