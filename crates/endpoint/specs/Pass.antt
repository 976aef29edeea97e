-- Sound in one pass: what is asked of each part, as the code asks it. That together they say `sound` is shown in proofs/Passing.
-- What the first checks of a step say of what they let pass. And the batch in one pass.
-- Assumes nothing.
use Rattle.std.specs.Prelude.{ℕ, ◌+◌, ◌<◌, min, Bool, true, false, not, cond, ◌&&◌, ◌||◌, List, [], ◌∷◌, ◌≡◌, eqb, ltb, leb, length, get_or}
use Rattle.below.specs.Below.{list_below}
use Rattle.views.specs.Sets.{has}
use Rattle.views.specs.declared.View.{View}
use Rattle.views.specs.Views.{view_ok}
use Rattle.marks.specs.Marks.{run_in, no_marks as no_words}
use Rattle.records.specs.Records.{holds_record}
use Rattle.slots.specs.declared.Slots.{Slots}
use Rattle.slots.specs.Fit.{slots_fit}
use Rattle.slots.specs.Slots.{place, slot_in, slot_of, run}
use Rattle.parts.specs.Counts.{given_fit}
use Rattle.endpoint.specs.declared.Change.{Change}
use Rattle.endpoint.specs.declared.EndPoint.{EndPoint}
use Rattle.endpoint.specs.Sound.{sound}
use Rattle.endpoint.specs.State.{is_pending}
use Rattle.endpoint.specs.Application.{unfit}
use Rattle.endpoint.specs.Give.{limit}
use Rattle.endpoint.specs.Numbers.{Check, check}

-- the change's flags and the one of the current view's announcement
abbrev pub flags_fit : Change → ℕ → Bool
flags_fit c told = leb c.opened 1 && (leb c.pending 1 && (leb c.block 2 && leb told 1))

-- the words: the slots, the current view's own, the counts of what was given and passed out
unfoldable pub words_fit : ℕ → View → ℕ → Bool → Slots → List ℕ → ℕ → Bool
words_fit p current latest pending held given passed =
    let s = slot_in held.tags current in
    let m = get_or held.marks s no_words in
    slots_fit p current latest pending held && (ltb s 4 && (given_fit given m && leb passed (run_in m p)))

-- the flags and the views it is in
unfoldable pub views_sound : ℕ → Change → ℕ → View → View → Bool
views_sound p change told current membership =
    leb p 7
    && (flags_fit change told && (view_ok current && (view_ok membership && (has current.set p && has membership.set p))))

-- what is known of an end-point and an area that are fit, and of the current view's slot s
pub record Fits (e : EndPoint) (area : List ℕ) (s : ℕ) : Type 0 where
  pub fit : unfit e area ≡ false
  pub sound_now : sound e ≡ true
  pub whole : length area ≡ 4096
  pub slot : s ≡ slot_of e.slots e.current
  pub slot_low : s < 4
  pub me_low : e.me < 8

-- ---- what a received message comes to

-- the first check passed: what a message's own checks start from
pub record Receivable (e : EndPoint) (area : List ℕ) (q : ℕ) : Type 0 where
  pub sound_now : sound e ≡ true
  pub whole : length area ≡ 4096
  pub low : q < 8
  pub other : q ≡ e.me → ⊥

-- ---- the batch in one pass: that it is so many single give-outs is shown in proofs/Batching

-- what refuses it
unfoldable pub batch_checks : EndPoint → List ℕ → ℕ → List Check
batch_checks e area q = check 1 (unfit e area || not (leb q 7)) ∷ check 2 (not (has e.current.set q)) ∷ []

-- k, and no more than n where that applies
abbrev pub capped : ℕ → Bool → ℕ → ℕ
capped n applies k = cond applies (min k n) k

-- the last word of q that may be given out: q's run, no further than what is passed out where q is p, nor than the limit where there is one
unfoldable pub last_given : EndPoint → ℕ → ℕ
last_given e q =
    capped (limit e q) (is_pending e && holds_record e.records e.me e.change.number)
    (capped e.passed (eqb q e.me) (run e.slots e.current q))

-- the n words of q in slot s that follow word i
unfoldable pub words_after : List ℕ → ℕ → ℕ → ℕ → ℕ → List ℕ
words_after area s q i n = list_below (λ j. get_or area (place s q (i + j + 1)) 0) n
