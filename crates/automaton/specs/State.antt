-- The state of one end-point: figures 9, 10 and 11 of the source (Keidar and Khazan), with functions for its tables, and four logs of what it did, which decide nothing.
-- Not here, because no promise rests on them: start_change.set and forwarded_set. Assumes nothing.
use Rattle.std.specs.Prelude.{List, ◌∷◌, Bool, true, false, ℕ}
use Rattle.std.proofs.Math.Option.{Option}
use Rattle.automaton.specs.Domain.{Domain}

-- a sync record: the view its maker was in, and how many words of each sender it commits to
pub record Record (D : Domain) : Type 0 where
  pub view : D.View
  pub cut : ℕ → ℕ

-- "moved straight from v to v'"
pub record Move (D : Domain) : Type 0 where
  pub left : D.View
  pub entered : D.View

pub data BlockStatus : Type 0 where
  unblocked : BlockStatus
  requested : BlockStatus
  blocked : BlockStatus

-- the word held of a sender in a view at a position, from 0
abbrev pub Words : Domain → Type 0
Words D = D.View → ℕ → ℕ → Option D.Word

-- the record held of a member under a start number
abbrev pub Records : Domain → Type 0
Records D = ℕ → ℕ → Option (Record D)

-- words by view, and words by view and sender: what the logs are
abbrev pub Log : Domain → Type 0
Log D = D.View → List D.Word

abbrev pub OutLog : Domain → Type 0
OutLog D = D.View → ℕ → List D.Word

pub record State (D : Domain) : Type 0 where
  -- current_view, mbrshp_view
  pub current : D.View
  pub membership : D.View
  -- start_change: its id, and whether it is other than ⊥
  pub latest : ℕ
  pub pending : Bool
  -- block_status, reliable_set
  pub block : BlockStatus
  pub declared : ℕ → Bool
  -- view_msg[p] = current_view, last_sent
  pub announced : Bool
  pub passed : ℕ
  -- view_msg[q], and the words that came since: last_rcvd[q]
  pub heard : ℕ → D.View
  pub received : ℕ → ℕ
  -- last_dlvrd, sync_msg, msgs
  pub given : ℕ → ℕ
  pub records : Records D
  pub words : Words D
  -- the logs: words taken from the application in each view, words given out in each view of each sender, records made, moves made
  pub accepted : Log D
  pub gave_out : OutLog D
  pub made : ℕ → Option (Record D)
  pub moves : List (Move D)

-- ---- the state with some of its parts anew, each written once: there is no record update

-- other words held
abbrev pub with_words : {D : Domain} → Words D → State D → State D
with_words ws s = record { current = s.current; membership = s.membership; latest = s.latest; pending = s.pending; block = s.block; declared = s.declared; announced = s.announced; passed = s.passed; heard = s.heard; received = s.received; given = s.given; records = s.records; words = ws; accepted = s.accepted; gave_out = s.gave_out; made = s.made; moves = s.moves }

-- more taken from the application
abbrev pub with_accepted : {D : Domain} → Log D → State D → State D
with_accepted ws s = record { current = s.current; membership = s.membership; latest = s.latest; pending = s.pending; block = s.block; declared = s.declared; announced = s.announced; passed = s.passed; heard = s.heard; received = s.received; given = s.given; records = s.records; words = s.words; accepted = ws; gave_out = s.gave_out; made = s.made; moves = s.moves }

-- a start number, with a change pending
abbrev pub with_start : {D : Domain} → ℕ → State D → State D
with_start k s = record { current = s.current; membership = s.membership; latest = k; pending = true; block = s.block; declared = s.declared; announced = s.announced; passed = s.passed; heard = s.heard; received = s.received; given = s.given; records = s.records; words = s.words; accepted = s.accepted; gave_out = s.gave_out; made = s.made; moves = s.moves }

-- another membership view
abbrev pub with_membership : {D : Domain} → D.View → State D → State D
with_membership v s = record { current = s.current; membership = v; latest = s.latest; pending = s.pending; block = s.block; declared = s.declared; announced = s.announced; passed = s.passed; heard = s.heard; received = s.received; given = s.given; records = s.records; words = s.words; accepted = s.accepted; gave_out = s.gave_out; made = s.made; moves = s.moves }

-- another block status
abbrev pub with_block : {D : Domain} → BlockStatus → State D → State D
with_block b s = record { current = s.current; membership = s.membership; latest = s.latest; pending = s.pending; block = b; declared = s.declared; announced = s.announced; passed = s.passed; heard = s.heard; received = s.received; given = s.given; records = s.records; words = s.words; accepted = s.accepted; gave_out = s.gave_out; made = s.made; moves = s.moves }

-- another declared set
abbrev pub with_declared : {D : Domain} → (ℕ → Bool) → State D → State D
with_declared d s = record { current = s.current; membership = s.membership; latest = s.latest; pending = s.pending; block = s.block; declared = d; announced = s.announced; passed = s.passed; heard = s.heard; received = s.received; given = s.given; records = s.records; words = s.words; accepted = s.accepted; gave_out = s.gave_out; made = s.made; moves = s.moves }

-- announced, with k words passed out
abbrev pub with_passed : {D : Domain} → ℕ → State D → State D
with_passed k s = record { current = s.current; membership = s.membership; latest = s.latest; pending = s.pending; block = s.block; declared = s.declared; announced = true; passed = k; heard = s.heard; received = s.received; given = s.given; records = s.records; words = s.words; accepted = s.accepted; gave_out = s.gave_out; made = s.made; moves = s.moves }

-- other views heard and words received
abbrev pub with_heard : {D : Domain} → (ℕ → D.View) → (ℕ → ℕ) → State D → State D
with_heard vs ks s = record { current = s.current; membership = s.membership; latest = s.latest; pending = s.pending; block = s.block; declared = s.declared; announced = s.announced; passed = s.passed; heard = vs; received = ks; given = s.given; records = s.records; words = s.words; accepted = s.accepted; gave_out = s.gave_out; made = s.made; moves = s.moves }

-- other records held, and made
abbrev pub with_records : {D : Domain} → Records D → (ℕ → Option (Record D)) → State D → State D
with_records rs ms s = record { current = s.current; membership = s.membership; latest = s.latest; pending = s.pending; block = s.block; declared = s.declared; announced = s.announced; passed = s.passed; heard = s.heard; received = s.received; given = s.given; records = rs; words = s.words; accepted = s.accepted; gave_out = s.gave_out; made = ms; moves = s.moves }

-- more given out
abbrev pub with_given : {D : Domain} → OutLog D → (ℕ → ℕ) → State D → State D
with_given ws ks s = record { current = s.current; membership = s.membership; latest = s.latest; pending = s.pending; block = s.block; declared = s.declared; announced = s.announced; passed = s.passed; heard = s.heard; received = s.received; given = ks; records = s.records; words = s.words; accepted = s.accepted; gave_out = ws; made = s.made; moves = s.moves }

-- the membership view entered, with given-out counts k
abbrev pub with_entered : {D : Domain} → (ℕ → ℕ) → State D → State D
with_entered ks s = record { current = s.membership; membership = s.membership; latest = s.latest; pending = false; block = unblocked; declared = s.declared; announced = false; passed = 0; heard = s.heard; received = s.received; given = ks; records = s.records; words = s.words; accepted = s.accepted; gave_out = s.gave_out; made = s.made; moves = record { left = s.current; entered = s.membership } ∷ s.moves }
