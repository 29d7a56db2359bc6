use Rattle.std.proofs.Common.{inl, refl, ap, sym, rules}
use Rattle.daide_run.specs.Folder.{head_for}
use Rattle.daide_run.proofs.RecordLemmas.{head_by}
use Rattle.daide_run.proofs.RunLemmas.{runs_with}
use Rattle.daide_run.proofs.running.serve_reported.Goals as goal

pub returns-in_default : goal.returns-in_default
returns-in_default g c =
    runs_with _ _ _ _ _ _ _ _ _ _ _ _ _ (ap (head_for c.args.settings.now) (sym c.in_default.is)) c.serve_sockets.ensures

pub returns-in-Ok : goal.returns-in-Ok
returns-in-Ok g c =
    let folder = c.in-Ok.ensures in
    runs_with _ _ _ _ _ _ _ _ _ _ _ _ _ (head_by c.args.settings.now _ c.in-Some.path _ _ folder.0 folder.1 c.in-Some.is)
    c.serve_sockets-in-Ok.ensures

pub returns-in-Err : goal.returns-in-Err
returns-in-Err g c = inl (_, refl, refl, (c.in-Some.path, search rules))
