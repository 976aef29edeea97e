-- The layouts: which parts each kind has, in the order in which they stand; a message's bytes and their number; when a message is well formed.
-- 1 view: view. 2 word: word. 3 sync: number, view, cut. 4 forward: sender, index, view, word. 5 start change: number, set. 6 membership view: view.
-- Assumes nothing; the fields' ranges are the code's types.
use Rattle.std.specs.Prelude.{ℕ, Bool, true, cond, ◌&&◌, ◌||◌, List, [], ◌∷◌, ◌++◌, eqb, leb, get_or}
use Rattle.views.specs.Views.{all_zero, view_ok}
use Rattle.views.specs.Cuts.{cut_ok}
use Rattle.views.specs.declared.View.{View}
use Rattle.messages.specs.declared.Message.{Message}
use Rattle.messages.specs.Bytes.{le, view_body, cut_bytes}

-- which kinds have a number; a sender and an index; a view; a cut; a word; a set
abbrev pub has_number : ℕ → Bool
has_number k = eqb k 3 || eqb k 5

abbrev pub has_place : ℕ → Bool
has_place k = eqb k 4

abbrev pub has_view : ℕ → Bool
has_view k = eqb k 1 || eqb k 3 || eqb k 4 || eqb k 6

abbrev pub has_cut : ℕ → Bool
has_cut k = eqb k 3

abbrev pub has_word : ℕ → Bool
has_word k = eqb k 2 || eqb k 4

abbrev pub has_set : ℕ → Bool
has_set k = eqb k 5

-- these bytes, where the kind has the part
abbrev pub part : Bool → List ℕ → List ℕ
part b bs = cond b bs []

-- the parts that a message's kind has, in the order in which they stand
unfoldable pub body : Message → List ℕ
body m =
    part (has_number m.kind) (le 4 m.number)
    ++ (part (has_place m.kind) (le 1 m.sender ++ le 1 m.index)
    ++ (part (has_view m.kind) (view_body m.view)
    ++ (part (has_cut m.kind) (cut_bytes m.cut)
    ++ (part (has_word m.kind) (le 8 m.word)
    ++ part (has_set m.kind) (le 1 m.set)))))

-- "First byte is the kind."
unfoldable pub bytes_of : Message → List ℕ
bytes_of m = m.kind ∷ body m

-- "1 view: 38 in all. 2 word: 9. 3 sync: 50. 4 forward: 48. 5 start change: 6. 6 membership view: 38." No other number is a kind.
unfoldable pub length_of : ℕ → ℕ
length_of k = get_or (0 ∷ 38 ∷ 9 ∷ 50 ∷ 48 ∷ 6 ∷ 38 ∷ []) k 0

-- a part that the kind has passes its own test, one that it does not have is blank
abbrev pub number_fits : ℕ → ℕ → Bool
number_fits k n = cond (has_number k) true (eqb n 0)

-- "sender", at most 7, and "index 1 to 128"
abbrev pub place_fits : ℕ → ℕ → ℕ → Bool
place_fits k r i = cond (has_place k) (leb r 7 && (leb 1 i && leb i 128)) (eqb r 0 && eqb i 0)

unfoldable pub blank_view : View → Bool
blank_view v = eqb v.id 0 && (eqb v.set 0 && all_zero v.starts)

abbrev pub view_fits : ℕ → View → Bool
view_fits k v = cond (has_view k) (view_ok v) (blank_view v)

-- the set that a cut is held against: a kind without a cut has all counts 0, as for an empty set
abbrev pub cut_set : ℕ → ℕ → ℕ
cut_set k s = cond (has_cut k) s 0

abbrev pub word_fits : ℕ → ℕ → Bool
word_fits k w = cond (has_word k) true (eqb w 0)

abbrev pub set_fits : ℕ → ℕ → Bool
set_fits k s = cond (has_set k) true (eqb s 0)

-- the kind is 1 to 6, and number, place, word and set fit it
unfoldable pub fields_fit : ℕ → ℕ → ℕ → ℕ → ℕ → ℕ → Bool
fields_fit k n r i w s = (leb 1 k && leb k 6) && (number_fits k n && (place_fits k r i && (word_fits k w && set_fits k s)))

-- a message is well formed: each of its parts fits its kind
unfoldable pub well_formed : Message → Bool
well_formed m =
    fields_fit m.kind m.number m.sender m.index m.word m.set
    && (cut_ok (cut_set m.kind m.view.set) m.cut && view_fits m.kind m.view)
