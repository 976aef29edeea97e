-- The numbers of specs/Numbers by name, and what a check in the code's form gives: the refusal, or what is found where no check applies. Assumes nothing.
use Rattle.std.specs.Prelude.{ℕ, List, ◌≡◌, Result, Ok, Err}
use Rattle.endpoint.specs.declared.refusal.Refusal.{Refusal}
use Rattle.endpoint.specs.declared.refusal.Refusal.TheVariants.{Unfit, Absent, NotNewer, OutOfTurn, Blocked, Full, NoFreeSlot, NotDeclared, NotNamed, NothingToDo, BeyondCut, NotForwarded, FewerGiven, AnotherWord, MoreGiven}
use Rattle.endpoint.specs.Numbers.{Check, verdict}

abbrev pub number_of : Refusal → ℕ
number_of Unfit = 1
number_of Absent = 2
number_of NotNewer = 3
number_of OutOfTurn = 4
number_of Blocked = 5
number_of Full = 6
number_of NoFreeSlot = 7
number_of NotDeclared = 8
number_of NotNamed = 9
number_of NothingToDo = 10
number_of BeyondCut = 11
number_of NotForwarded = 12
number_of FewerGiven = 13
number_of AnotherWord = 14
number_of MoreGiven = 15

-- r is x where no check of the table applies, and else the refusal with the number of the first that does
abbrev pub Judged : {T : Type 0} → List Check → T → Result T Refusal → Type 0
Judged cs x (Ok y) = (verdict cs ≡ 0) × (y ≡ x)
Judged cs x (Err r) = verdict cs ≡ number_of r

-- a change in place: from was to next where no check of the table applies, and else refused with the number of the first that does, with all as it was
abbrev pub Changes : {T A : Type 0} → List Check → A → A → A → Result T Refusal → Type 0
Changes cs was next now (Ok x) = (verdict cs ≡ 0) × (now ≡ next)
Changes cs was next now (Err r) = (verdict cs ≡ number_of r) × (now ≡ was)
