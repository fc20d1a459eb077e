use Rattle.face_dap.proofs.launching.begin.Goals as goal

-- what was read is handed on
pub begin_session-requires-clause-file : goal.begin_session-requires-clause-file
begin_session-requires-clause-file c = c.requires.file

pub begin_session-requires-clause-rest : goal.begin_session-requires-clause-rest
begin_session-requires-clause-rest c = c.requires.rest
