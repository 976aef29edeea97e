-- `agreeing::agree` meets its contract: the members passed are in the four parts of the answer. Assumes nothing.
use Rattle.agreement.specs.Pass.{part_of}
use Rattle.agreement.proofs.Going.{Going}
use Rattle.agreement.proofs.agreeing.agree.Given as goal

abbrev pub invariant-loop-m : goal.invariant-loop-m
invariant-loop-m l = Going (part_of l.current l.membership l.records) l.a l.m
