-- "Due." of an end-point: the rule is in the agreement's crate. Assumes nothing.
use Rattle.std.specs.Prelude.{ℕ, Bool}
use Rattle.slots.specs.Slots.{held_word}
use Rattle.agreement.specs.Due as Rule
use Rattle.endpoint.specs.declared.EndPoint.{EndPoint}
use Rattle.endpoint.specs.Ready.{in_t, named_cut}

-- word i of r is due from p to q
unfoldable pub due : EndPoint → ℕ → ℕ → ℕ → ℕ → Bool
due e p q r i = Rule.due (in_t e) (named_cut e) e.current.set p q r i

-- the lowest held word of r that is due from this end-point to q above the mark, less 1: 128 where there is none
unfoldable pub lowest_due : EndPoint → ℕ → ℕ → ℕ
lowest_due e q r = Rule.lowest_due (in_t e) (named_cut e) e.current.set e.me e.forwarded (held_word e.slots e.current r) q r

-- 12: "a due word has not been forwarded"
unfoldable pub owes : EndPoint → Bool
owes e = Rule.owes (in_t e) (named_cut e) e.current.set e.me e.forwarded
