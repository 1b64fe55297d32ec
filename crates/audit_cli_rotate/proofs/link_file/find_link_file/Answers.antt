use Rattle.std.proofs.Common.{◌⊎◌, ◌∙◌, Err, ap, subst}
use Rattle.std.proofs.lemmas.Result.{err_from_is_err_and}
use Rattle.audit_cli_rotate.proofs.PreparedStores.{others_at}
use Rattle.audit_cli_rotate.proofs.link_file.find_link_file.Goals as goal

pub returns-clause-kept : goal.returns-clause-kept
returns-clause-kept g c = record {
  file = c.in_ok-file.file;
  opened = c.in_ok-file.ensures.opened;
  bytes_are = c.in_ok-judge_bytes.ensures.same;
  synced = subst (g.F.SystemFiles.synced c.args.rt.now) c.folder_of.ensures c.in_ok-sync_folder.ensures.synced;
}

-- it has other bytes
pub returns-in_err-judge_bytes-clause-fault : goal.returns-in_err-judge_bytes-clause-fault
returns-in_err-judge_bytes-clause-fault g c =
    let p = err_from_is_err_and c.from_residual-in_err-judge_bytes.result c.from_residual-in_err-judge_bytes.ensures.1 in
    rw (p.1 ∙ ap Err p.2) (others_at g.F.File.SystemFile.facts _ (g.F.SystemFiles.failed c.args.rt.now ⊎ g.F.FileNames.unnamed c.args.rt.now) c.args.path.now c.args.bytes.now c.in_ok-file.file c.in_err-judge_bytes.field-0.0 c.in_ok-file.ensures.opened
    (λ other. c.in_err-judge_bytes.ensures.others (ap Err other)) c.in_err-judge_bytes.ensures.fault)
