-- "Numbers given back": a step is a table of checks in rising order of numbers, then its effect. The first check that applies gives the refusal,
-- and a refusal gives only its number: the end-point and the area are as before. And what a step gives where it is accepted.
--   1 an unsound end-point, a member number above 7, a malformed view, message or cut, a word area of another length, or a message from oneself
--   2 a needed member is absent from a set            9 a named record of a member of both views is not held
--   3 a start number or id is not newer              10 nothing to do
--   4 out of turn                                    11 beyond the cut
--   5 application send while blocked                 12 a due word has not been forwarded
--   6 128 words are already there                    13 for some member of the current view, fewer words given out than agreed
--   7 four slots in use and a fifth needed           14 another word is held at that place
--   8 the declared set lacks a needed member         15 for some member of the current view, more words given out than agreed
-- Assumes nothing.
use Rattle.std.specs.Prelude.{ℕ, Bool, cond, List, [], ◌∷◌, eqb}
use Rattle.views.specs.declared.View.{View}
use Rattle.views.specs.Views.{no_view}
use Rattle.messages.specs.declared.Message.{Message}
use Rattle.messages.specs.Messages.{blank}
use Rattle.endpoint.specs.declared.EndPoint.{EndPoint}
use Rattle.endpoint.specs.declared.Answer.{Answer}

-- a number, and whether what it stands for applies
pub record Check : Type 0 where
  pub number : ℕ
  pub applies : Bool

abbrev pub check : ℕ → Bool → Check
check n b = record { number = n; applies = b }

-- the first number that applies, 0 where none does
unfoldable pub verdict : List Check → ℕ
verdict [] = 0
verdict (c ∷ cs) = let rest = verdict cs in cond c.applies c.number rest

-- ---- answers: what a step does not give is blank

-- refused with n: the old end-point
abbrev pub refused_with : ℕ → EndPoint → Answer
refused_with n e = record { ep = e; message = blank 0; view = no_view; word = 0; number = n; set = 0 }

-- accepted, and nothing more
abbrev pub accepted : EndPoint → Answer
accepted e = record { ep = e; message = blank 0; view = no_view; word = 0; number = 0; set = 0 }

-- accepted, with a set
abbrev pub declares : EndPoint → ℕ → Answer
declares e s = record { ep = e; message = blank 0; view = no_view; word = 0; number = 0; set = s }

-- accepted, with a message to a set
abbrev pub sends : EndPoint → ℕ → Message → Answer
sends e s m = record { ep = e; message = m; view = no_view; word = 0; number = 0; set = s }

-- accepted, with a word
abbrev pub gives : EndPoint → ℕ → Answer
gives e w = record { ep = e; message = blank 0; view = no_view; word = w; number = 0; set = 0 }

-- accepted, with a view and the set T
abbrev pub installs : EndPoint → View → ℕ → Answer
installs e v t = record { ep = e; message = blank 0; view = v; word = 0; number = 0; set = t }

-- ---- a step: its checks, then its answer; where it stores, the area too

unfoldable pub settle : List Check → EndPoint → Answer → Answer
settle cs e a = cond (eqb (verdict cs) 0) a (refused_with (verdict cs) e)

unfoldable pub settle_area : List Check → List ℕ → List ℕ → List ℕ
settle_area cs area next = cond (eqb (verdict cs) 0) next area
