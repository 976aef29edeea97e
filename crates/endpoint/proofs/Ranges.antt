-- Of the code's types: the numbers that an end-point's messages are made of lie in their types' ranges. From an end-point and inputs of the code's types every step
-- leaves and sends such numbers; so each message that a step sends is written, and reads back as it was sent. In order: what is asked; what each step keeps; what it
-- sends. Assumes nothing.
use Rattle.std.specs.Prelude.{Ok}
use Prim.Native.Nat.{ℕ, zero, suc, ◌^◌, ◌≤◌, ◌<◌}
use native.Mathlib.Omega.{arith}
use mathlib.Core.Bool.{Bool, true, false, cond}
use mathlib.Core.List.{List, [], ◌∷◌}
use mathlib.Core.Logic.{⊎_elim}
use mathlib.Core.Path.{◌≡◌, refl, sym, subst, ◌∙◌}
use lib.Dec.{eqb, ltb, lit<}
use lib.ListN.{get_or, replicate, set, get_or-eq_default}
use borrow.Author.Tests.{eqb-true, eqb-false, ltb-true}
use Rattle.below.specs.Below.{list_below}
use Rattle.below.proofs.Tests.{is_not, side}
use Rattle.below.proofs.Lists.{list_at, list_length}
use Rattle.views.specs.Views.{initial, no_view, same}
use Rattle.views.specs.Cuts.{no_cut}
use Rattle.views.proofs.Members.{only_low}
use Rattle.views.specs.Sets.{has}
use Rattle.messages.specs.declared.Message.{Message}
use Rattle.messages.specs.Layouts.{bytes_of}
use Rattle.messages.specs.Messages.{blank}
use Rattle.messages.specs.Codec.{read_of}
use Rattle.messages.proofs.Numbers.{ViewRange, CutRange}
use Rattle.messages.proofs.Trip.{MessageRange, reads_back}
use Rattle.slots.specs.Slots.{run}
use Rattle.slots.proofs.Finding.{run_low}
use Rattle.endpoint.specs.declared.EndPoint.{EndPoint}
use Rattle.endpoint.specs.declared.Answer.{Answer}
use Rattle.endpoint.specs.Fresh.{fresh}
use Rattle.endpoint.specs.Receive.{area_after_receive, area_after_word, area_after_forward, store_area, after_receive, after_view, after_word, after_sync, after_forward, store_word, next_word, live}
use Rattle.endpoint.specs.Application.{after_send, area_after_send, after_block_ok}
use Rattle.endpoint.specs.Membership.{after_start, after_membership}
use Rattle.endpoint.specs.Change.{after_ask, after_declare, announces, own_next, passes, own_cut, syncs}
use Rattle.endpoint.specs.Forward.{due_index, forward_out_checks, forwards}
use Rattle.endpoint.specs.Due.{lowest_due}
use Rattle.endpoint.specs.Numbers.{verdict, settle}
use Rattle.endpoint.specs.Give.{gives_next}
use Rattle.endpoint.specs.Install.{after_install}
use Rattle.endpoint.specs.State.{with_heard}
use Rattle.endpoint.specs.Sound.{heard_from}
use Rattle.endpoint.specs.Steps.{Event, send, block_ok, start_change, membership_view, receive, ask_to_block, declare, announce, pass_out, sync, forward, give_out, install, checks, effect, stored, step, area_after}
use Rattle.endpoint.proofs.Verdicts.{step_number, refused_keeps, accepted_effect}
use Rattle.endpoint.proofs.Kept.{Passed, step_passed}
use Rattle.endpoint.proofs.Sent.{sent_formed}

-- ---- what is asked

-- the parts of an end-point that its messages are made of
pub record Ranged (e : EndPoint) : Type 0 where
  pub current_range : ViewRange e.current
  pub membership_range : ViewRange e.membership
  pub number_range : e.change.number < 256 ^ 4

-- a word area of the code's type
abbrev pub WordsRange : List ℕ → Type 0
WordsRange area = (i : ℕ) → get_or area i 0 < 256 ^ 8

-- an input of the code's types
abbrev pub InputRange : Event → Type 0
InputRange (send w) = w < 256 ^ 8
InputRange block_ok = Unit {0}
InputRange (start_change n s) = (n < 256 ^ 4) × (s < 256 ^ 1)
InputRange (membership_view v) = ViewRange v
InputRange (receive q m) = MessageRange m
InputRange ask_to_block = Unit {0}
InputRange declare = Unit {0}
InputRange announce = Unit {0}
InputRange pass_out = Unit {0}
InputRange sync = Unit {0}
InputRange (forward q r) = (q < 256 ^ 1) × (r < 256 ^ 1)
InputRange (give_out q) = q < 256 ^ 1
InputRange install = Unit {0}

-- ---- no view and no cut

zero_at : (n r : ℕ) → get_or {A = ℕ} (replicate n 0) r 0 ≡ 0
zero_at zero r = refl
zero_at (suc n) zero = refl
zero_at (suc n) (suc r) = zero_at n r

initial_range : (p : ℕ) → ViewRange (initial p)
initial_range p = record {
  eight = refl;
  starts_low = λ n. rw (zero_at 8 n) (lit< tt);
  id_low = lit< tt;
  set_low = omega (arith, only_low p);
}

blank_view_lem : ViewRange no_view
blank_view_lem = record { eight = refl; starts_low = λ n. rw (zero_at 8 n) (lit< tt); id_low = lit< tt; set_low = lit< tt }

blank_cut : CutRange no_cut
blank_cut = record { eight = refl; counts_low = λ n. rw (zero_at 8 n) (lit< tt) }

pub fresh_range : (p : ℕ) → Ranged (fresh p)
unfolding fresh
fresh_range p = record { current_range = initial_range p; membership_range = initial_range p; number_range = lit< tt }

-- ---- kept

-- a receive leaves the parts that messages are made of
received_same : (e : EndPoint) (q : ℕ) (m : Message) → Ranged e → Ranged (after_receive e q m)
unfolding after_receive after_view after_word after_sync after_forward store_word
received_same e q m r = go (eqb m.kind 1) (eqb m.kind 2) (eqb m.kind 3) (live e q) (same m.view e.current)
  where
    go : (x y z a b : Bool)
        → Ranged (cond x (after_view e q m.view)
        (cond y (cond a (with_heard e.heard (set e.received q (next_word e q)) (store_word e (heard_from e q) q (next_word e q))) e)
        (cond z (after_sync e q m) (cond b (store_word e e.current m.sender m.index) e))))
    go true y z a b = record { current_range = r.current_range; membership_range = r.membership_range; number_range = r.number_range }
    go false true z true b = record { current_range = r.current_range; membership_range = r.membership_range; number_range = r.number_range }
    go false true z false b = r
    go false false true a b = record { current_range = r.current_range; membership_range = r.membership_range; number_range = r.number_range }
    go false false false a true = record { current_range = r.current_range; membership_range = r.membership_range; number_range = r.number_range }
    go false false false a false = r

module _ (e : EndPoint) (area : List ℕ) (r : Ranged e) where
  kept : (x : EndPoint) → x.current ≡ e.current → x.membership ≡ e.membership → x.change.number ≡ e.change.number → Ranged x
  kept x a b c = record {
    current_range = subst ViewRange (sym a) r.current_range;
    membership_range = subst ViewRange (sym b) r.membership_range;
    number_range = rw c r.number_range;
  }

  effect_range : (ev : Event) → InputRange ev → Ranged (effect ev e area).ep
  unfolding effect after_send after_block_ok after_start after_membership after_ask after_declare announces passes syncs forwards gives_next after_install
  effect_range (send w) i = kept _ refl refl refl
  effect_range block_ok i = kept _ refl refl refl
  effect_range (start_change n s) i = record { current_range = r.current_range; membership_range = r.membership_range; number_range = i.0 }
  effect_range (membership_view v) i = record { current_range = r.current_range; membership_range = i; number_range = r.number_range }
  effect_range (receive q m) i = received_same e q m r
  effect_range ask_to_block i = kept _ refl refl refl
  effect_range declare i = kept _ refl refl refl
  effect_range announce i = kept _ refl refl refl
  effect_range pass_out i = kept _ refl refl refl
  effect_range sync i = kept _ refl refl refl
  effect_range (forward q s) i = kept _ refl refl refl
  effect_range (give_out q) i = kept _ refl refl refl
  effect_range install i = record { current_range = r.membership_range; membership_range = r.membership_range; number_range = r.number_range }

  pub step_range : (ev : Event) → InputRange ev → Ranged (step ev e area).ep
  step_range ev i = go (eqb (step ev e area).number 0) refl
    where
      go : (b : Bool) → eqb (step ev e area).number 0 ≡ b → Ranged (step ev e area).ep
      go true t = subst (λ (a : Answer). Ranged a.ep) (sym (accepted_effect ev e area (eqb-true (step ev e area).number 0 t)).0) (effect_range ev i)
      go false t = subst Ranged (sym (refused_keeps ev e area (eqb-false (step ev e area).number 0 t)).0) r

-- a word of the code's type written anywhere
words_set : (xs : List ℕ) (k w : ℕ) → WordsRange xs → w < 256 ^ 8 → WordsRange (set xs k w)
words_set [] k w r l i = r i
words_set (x ∷ xs) zero w r l zero = l
words_set (x ∷ xs) zero w r l (suc i) = r (suc i)
words_set (x ∷ xs) (suc k) w r l zero = r zero
words_set (x ∷ xs) (suc k) w r l (suc i) = words_set xs k w (λ j. r (suc j)) l i

stored_range : (ev : Event) (e : EndPoint) (area : List ℕ) → WordsRange area → InputRange ev → WordsRange (stored ev e area)
unfolding stored area_after_send area_after_receive area_after_word area_after_forward store_area
stored_range (send w) e area r i = words_set area _ w r i
stored_range block_ok e area r i = r
stored_range (start_change n s) e area r i = r
stored_range (membership_view v) e area r i = r
stored_range (receive q m) e area r i = go (eqb m.kind 1) (eqb m.kind 2) (eqb m.kind 3) (live e q) (same m.view e.current)
  where
    go : (x y z a b : Bool)
        → WordsRange (cond x area
        (cond y (cond a (store_area e area (heard_from e q) q (next_word e q) m.word) area)
        (cond z area (cond b (store_area e area e.current m.sender m.index m.word) area))))
    go true y z a b = r
    go false true z true b = words_set area _ m.word r i.word_low
    go false true z false b = r
    go false false true a b = r
    go false false false a true = words_set area _ m.word r i.word_low
    go false false false a false = r
stored_range ask_to_block e area r i = r
stored_range declare e area r i = r
stored_range announce e area r i = r
stored_range pass_out e area r i = r
stored_range sync e area r i = r
stored_range (forward q s) e area r i = r
stored_range (give_out q) e area r i = r
stored_range install e area r i = r

pub area_range : (ev : Event) (e : EndPoint) (area : List ℕ) → WordsRange area → InputRange ev → WordsRange (area_after ev e area)
area_range ev e area r i = go (eqb (step ev e area).number 0) refl
  where
    go : (b : Bool) → eqb (step ev e area).number 0 ≡ b → WordsRange (area_after ev e area)
    go true t = subst WordsRange (sym (accepted_effect ev e area (eqb-true (step ev e area).number 0 t)).1) (stored_range ev e area r i)
    go false t = subst WordsRange (sym (refused_keeps ev e area (eqb-false (step ev e area).number 0 t)).1) r

-- ---- sent

blank_range : MessageRange (blank 0)
blank_range = record {
  view_range = blank_view_lem;
  cut_range = blank_cut;
  number_low = lit< tt;
  word_low = lit< tt;
  set_low = lit< tt;
  sender_low = lit< tt;
  index_low = lit< tt;
}

own_cut_range : (e : EndPoint) → CutRange (own_cut e)
unfolding own_cut
own_cut_range e = record {
  eight = list_length count 8;
  counts_low = λ n. ⊎_elim (λ l. rw (list_at count 8 n 0 l) (low (has e.current.set n) n)) (λ l. rw (past n l) (lit< tt)) (side n 8);
}
  where
    count : ℕ → ℕ
    count k = cond (has e.current.set k) (run e.slots e.current k) 0

    low : (b : Bool) (n : ℕ) → cond b (run e.slots e.current n) 0 < 256 ^ 1
    low true n = omega (arith, run_low e.slots e.current n)
    low false n = lit< tt

    past : (n : ℕ) → 8 ≤ n → get_or (list_below count 8) n 0 ≡ 0
    past n l = get_or-eq_default (list_below count 8) 0 (rw (list_length count 8) l)

effect_sent : (ev : Event) (e : EndPoint) (area : List ℕ) → Passed (checks ev e area) → Ranged e → WordsRange area → InputRange ev
    → MessageRange (effect ev e area).message
unfolding checks effect forward_out_checks announces passes own_next syncs forwards due_index gives_next
effect_sent (send w) e area c r a i = blank_range
effect_sent block_ok e area c r a i = blank_range
effect_sent (start_change n s) e area c r a i = blank_range
effect_sent (membership_view v) e area c r a i = blank_range
effect_sent (receive q m) e area c r a i = blank_range
effect_sent ask_to_block e area c r a i = blank_range
effect_sent declare e area c r a i = blank_range
effect_sent announce e area c r a i = record {
  view_range = r.current_range;
  cut_range = blank_cut;
  number_low = lit< tt;
  word_low = lit< tt;
  set_low = lit< tt;
  sender_low = lit< tt;
  index_low = lit< tt;
}
effect_sent pass_out e area c r a i = record {
  view_range = blank_view_lem;
  cut_range = blank_cut;
  number_low = lit< tt;
  word_low = a _;
  set_low = lit< tt;
  sender_low = lit< tt;
  index_low = lit< tt;
}
effect_sent sync e area c r a i = record {
  view_range = r.current_range;
  cut_range = own_cut_range e;
  number_low = r.number_range;
  word_low = lit< tt;
  set_low = lit< tt;
  sender_low = lit< tt;
  index_low = lit< tt;
}
effect_sent (forward q s) e area c r a i = record {
  view_range = r.current_range;
  cut_range = blank_cut;
  number_low = lit< tt;
  word_low = a _;
  set_low = lit< tt;
  sender_low = i.1;
  index_low = omega (arith, ltb-true (lowest_due e q s) 128 (is_not (ltb (lowest_due e q s) 128) c.1.1.1.0));
}
effect_sent (give_out q) e area c r a i = blank_range
effect_sent install e area c r a i = blank_range

pub sent_range : (ev : Event) (e : EndPoint) (area : List ℕ) → Ranged e → WordsRange area → InputRange ev → MessageRange (step ev e area).message
unfolding step settle
sent_range ev e area r a i = go (eqb (verdict (checks ev e area)) 0) refl
  where
    go : (b : Bool) → eqb (verdict (checks ev e area)) 0 ≡ b → MessageRange (step ev e area).message
    go false t = rw (step, settle, t) blank_range
    go true t =
        let z : (step ev e area).number ≡ 0 = step_number ev e area ∙ eqb-true (verdict (checks ev e area)) 0 t in
        subst (λ (x : Answer). MessageRange x.message) (sym (accepted_effect ev e area z).0) (effect_sent ev e area (step_passed ev e area z) r a i)

-- what a step sends, written and read, is what it sent
pub sent_reads_back : (ev : Event) (e : EndPoint) (area : List ℕ) → Ranged e → WordsRange area → InputRange ev
    → ((step ev e area).message.kind ≡ 0 → ⊥)
    → read_of (bytes_of (step ev e area).message) ≡ Ok ((step ev e area).message)
sent_reads_back ev e area r a i h = reads_back (step ev e area).message (sent_range ev e area r a i) (sent_formed ev e area h)
