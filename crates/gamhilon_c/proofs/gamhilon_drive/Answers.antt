-- What is handed out is what comes of the driven document.
use Rattle.gamhilon_c.proofs.DrivenCalls.{called_driven}
use Rattle.gamhilon_c.proofs.gamhilon_drive.Goals as goal

pub returns : goal.returns
returns c = called_driven _ _ _ _ _ _ c.drive_bytes-text.ensures c.hand_out.ensures
