-- `agreed` meets its contract. Assumes nothing.
use Rattle.endpoint.proofs.Agreed.{count_is, unnamed_is, T_is}
use Rattle.endpoint.proofs.EndPoint.agreed.Goals as goal

pub returns : goal.returns
returns c =
    let e = c.args.self.now in
    record {
      whole = c.agree.ensures;
      unnamed = unnamed_is e _ c.agree.ensures;
      set = T_is e _ c.agree.ensures;
      counts = count_is e _ c.agree.ensures;
    }
