-- `write_check::lacks_scale` meets its contract. Assumes nothing.
use Rattle.write_check.proofs.ByteTests.{not_kept_is}
use Rattle.write_check.proofs.lacks_scale.Goals as goal

pub returns : goal.returns
returns c =
    not_kept_is c.requires c.at-from.ensures c.at-to.ensures c.is_no_scale.ensures
