-- "Give out from q", and the batch, which is so many single give-outs. Assumes nothing.
use Rattle.std.specs.Prelude.{ℕ, zero, suc, ◌+◌, Bool, true, false, not, cond, ◌||◌, ◌&&◌, List, [], ◌∷◌, ◌++◌, eqb, ltb, leb, length, get_or, set, drop}
use Rattle.views.specs.Sets.{has}
use Rattle.views.specs.Cuts.{count_of}
use Rattle.records.specs.Records.{holds_record, the_record}
use Rattle.slots.specs.Slots.{place, slot_of, held_word}
use Rattle.endpoint.specs.declared.EndPoint.{EndPoint}
use Rattle.endpoint.specs.declared.Answer.{Answer}
use Rattle.endpoint.specs.declared.Batch.{Batch}
use Rattle.endpoint.specs.State.{with_given, is_pending}
use Rattle.endpoint.specs.Ready.{ready, agreed}
use Rattle.endpoint.specs.Application.{unfit}
use Rattle.endpoint.specs.Numbers.{Check, check, gives, settle}

-- the index of the next word of q
unfoldable pub next_given : EndPoint → ℕ → ℕ
next_given e q = get_or e.given q 0 + 1

-- "the limit: p's own cut if no view is ready, else q's agreed count by the records held"
unfoldable pub limit : EndPoint → ℕ → ℕ
limit e q = cond (ready e) (agreed e q) (count_of (the_record e.records e.me e.change.number).cut q)

-- 10: "the next word is not held, or q is p and it is not passed out"
unfoldable pub nothing_next : EndPoint → ℕ → Bool
nothing_next e q = not (held_word e.slots e.current q (next_given e q)) || (eqb q e.me && ltb e.passed (next_given e q))

-- 11: "pending, own record for the pending number held, and the next index is above the limit"
unfoldable pub beyond_cut : EndPoint → ℕ → Bool
beyond_cut e q = is_pending e && (holds_record e.records e.me e.change.number && ltb (limit e q) (next_given e q))

-- "Give out from q: 1; 2 if q is not in the current view; 10 ..; 11 .."
unfoldable pub give_checks : EndPoint → List ℕ → ℕ → List Check
give_checks e area q =
    check 1 (unfit e area || not (leb q 7))
    ∷ check 2 (not (has e.current.set q))
    ∷ check 10 (nothing_next e q)
    ∷ check 11 (beyond_cut e q)
    ∷ []

-- "Gives the word."
unfoldable pub gives_next : EndPoint → List ℕ → ℕ → Answer
gives_next e area q =
    gives (with_given (set e.given q (next_given e q)) e) (get_or area (place (slot_of e.slots e.current) q (next_given e q)) 0)

-- a single give-out
unfoldable pub give_one : EndPoint → List ℕ → ℕ → Answer
give_one e area q = settle (give_checks e area q) e (gives_next e area q)

-- ---- "A batch gives out as many words as a lent area has room for."

-- the end-point after up to n give-outs, and the words given: a refused one ends it
pub record Given : Type 0 where
  pub ep : EndPoint
  pub words : List ℕ

unfoldable pub give_many : EndPoint → List ℕ → ℕ → ℕ → Given
give_many e area q zero = record { ep = e; words = [] }
give_many e area q (suc n) =
    let a = give_one e area q in
    let more = give_many a.ep area q n in
    elim (eqb a.number 0) [
      | true ↦ record { ep = more.ep; words = a.word ∷ more.words }
      | false ↦ record { ep = e; words = [] }
    ]

-- "Refused with 1 or 2 as a give-out is"; "10 or 11 merely ends it"
unfoldable pub batch_number : EndPoint → List ℕ → ℕ → ℕ
batch_number e area q = cond (leb (give_one e area q).number 2) (give_one e area q).number 0

-- what a batch with this much room gives out: nothing where it is refused
unfoldable pub batch : EndPoint → List ℕ → ℕ → ℕ → Given
batch e area q room = cond (eqb (batch_number e area q) 0) (give_many e area q room) (record { ep = e; words = [] })

-- "leaves the rest of the area unchanged"
unfoldable pub batch_area : EndPoint → List ℕ → ℕ → List ℕ → List ℕ
batch_area e area q out = (batch e area q (length out)).words ++ drop (length (batch e area q (length out)).words) out

-- "It reports the count of single give-outs that it equals"
abbrev pub batch_answer : EndPoint → List ℕ → ℕ → ℕ → Batch
batch_answer e area q room = record { ep = (batch e area q room).ep; count = length (batch e area q room).words; number = batch_number e area q }
