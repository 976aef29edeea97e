-- Demand 3 of the scope's group: the automaton's virtual synchrony, read back. Assumes nothing.
use Prim.Native.Nat.{ℕ}
use mathlib.Core.Path.{◌≡◌, sym, ap, ◌∙◌}
use lib.ListN.{take as first_of}
use Rattle.automaton.proofs.Theorem.{virtual_synchrony}
use Rattle.views.specs.declared.View.{View}
use Rattle.group.specs.Group.{Group, start, run}
use Rattle.group.specs.Logs.{Logs, no_logs, logs_from, logs}
use Rattle.group.specs.Demand3.{Demand3, Moved, Agreed}
use Rattle.refinement.specs.Views.{normal, view_of}
use Rattle.refinement.specs.Abstract.{group}
use Rattle.refinement.proofs.Sameness.{view_normal}
use Rattle.refinement.proofs.Simulation.{Sim}
use Rattle.refinement.proofs.Running.{sim_start, sim_run}

-- of any group that the automaton goes along with
sim_agreed : (c : Group) (ls : Logs) → Sim c ls → (p q r : ℕ) (v v' : View) → Moved ls p v v' → Moved ls q v v' → Agreed ls p q r v v'
unfolding group
sim_agreed c ls S p q r v v' mp mq =
    let A = virtual_synchrony S.reach p q r (normal v) (normal v') (S.listed p v v' mp) (S.listed q v v' mq) in
    let gave : (n : ℕ) → (ls n).given v r ≡ (ls n).given (view_of (normal v)) r = λ n. sym ((S.alike n).given (view_of (normal v)) v r (view_normal v)) in
    let took : (ls r).accepted (view_of (normal v)) ≡ (ls r).accepted v = (S.alike r).accepted (view_of (normal v)) v (view_normal v) in
    record {
      same = gave p ∙ A.same ∙ sym (gave q);
      first = (A.first.0, gave p ∙ A.first.1 ∙ ap (first_of A.first.0) took);
      all = λ m. gave p ∙ A.all (S.listed r v v' m) ∙ took;
    }

pub demand3 : Demand3
unfolding Demand3 logs
demand3 areas fit steps p q r v v' mp mq =
    sim_agreed (run steps (start areas)) (logs_from steps (start areas) no_logs) (sim_run steps (start areas) no_logs (sim_start areas)) p q r v v' mp mq
