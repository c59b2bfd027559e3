-- `write_check::lacks_name` meets its contract. Assumes nothing.
use Rattle.write_check.proofs.ByteTests.{no_name_is}
use Rattle.write_check.proofs.lacks_name.Goals as goal

pub returns : goal.returns
returns c =
    no_name_is c.requires c.at-from.ensures c.at-to.ensures c.is_unclean.ensures
