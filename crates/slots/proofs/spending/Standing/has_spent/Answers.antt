-- `has_spent` meets its contract, by the branch that was taken. Assumes nothing.
use native.Mathlib.Omega.{arith}
use mathlib.Core.Path.{sym, ◌∙◌}
use borrow.Author.Tests.{le-ltb, ne_eqb}
use Rattle.slots.proofs.Branches.{spent_low, spent_same, spent_else}
use Rattle.slots.proofs.spending.Standing.has_spent.Goals as goal

pub returns-then-v-self : goal.returns-then-v-self
returns-then-v-self c = spent_low _ _ _ _ _ _ c.same.ensures c.if-v-self.true

pub returns-then-start-self : goal.returns-then-start-self
returns-then-start-self c = spent_else _ _ _ _ _ _ c.start-start.ensures c.if-v-self.false (λ e. omega arith)

pub returns-then-start-self-2 : goal.returns-then-start-self-2
returns-then-start-self-2 c = spent_same _ _ _ _ _ _ c.start-start.ensures c.if-v-self.false c.if-start-self-2.true

pub returns-else-start-self-2 : goal.returns-else-start-self-2
returns-else-start-self-2 c =
    ne_eqb _ _ c.if-start-self-2.false ∙ sym (le-ltb _ _ c.if-start-self.false) ∙
    spent_else _ _ _ _ _ _ c.start-start.ensures c.if-v-self.false c.if-start-self-2.false
