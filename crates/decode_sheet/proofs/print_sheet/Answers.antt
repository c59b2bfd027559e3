-- `decode_sheet::print_sheet` meets its contract. Assumes nothing.
use native.Mathlib.Omega.{arith}
use Rattle.decode_sheet.proofs.Print.{refused_room, printed_path, printed_refused}
use Rattle.decode_sheet.proofs.print_sheet.Goals as goal

pub refused_line-requires : goal.refused_line-requires
refused_line-requires c = refused_room _ _ _ (omega arith)

pub returns-in-Ok : goal.returns-in-Ok
returns-in-Ok c = printed_path _ _ _ (omega arith) c.decode_sheet.ensures _ c.in-Ok.is

pub returns-in-Err : goal.returns-in-Err
returns-in-Err c = printed_refused _ _ _ (omega arith) c.decode_sheet.ensures _ c.in-Err.is _ _ c.refused_line.ensures
