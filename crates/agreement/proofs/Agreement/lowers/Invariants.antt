-- `Agreement::lowers` meets its contract: the members passed are counted. Assumes nothing.
use Rattle.std.proofs.Common.{◌≡◌}
use Rattle.agreement.specs.Tops.{tops, cut_or_none}
use Rattle.agreement.proofs.Agreement.lowers.Given as goal

abbrev pub invariant-loop-m : goal.invariant-loop-m
invariant-loop-m l = l.c ≡ tops (cut_or_none l.self) l.m
