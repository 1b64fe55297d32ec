use Rattle.audit_disk_model.proofs.Moments.{then_sync}
use Rattle.audit_disk_model.proofs.Windows.{window_written, mark_written, published_all}
use Rattle.audit_disk_model.proofs.window.publish.Goals as goal

pub returns-in_err-sync-clause-any_moment : goal.returns-in_err-sync-clause-any_moment
returns-in_err-sync-clause-any_moment g c =
    let window = window_written c.args.at c.args.window.now c.args.mark_at c.args.mark.now c.in_ok-write_sectors.ensures.any_moment in
    then_sync window c.in_err-sync.ensures

pub returns-in_err-write-clause-any_moment : goal.returns-in_err-write-clause-any_moment
returns-in_err-write-clause-any_moment g c =
    let moments = c.in_ok-write_sectors.ensures.any_moment in
    let synced = then_sync (window_written c.args.at c.args.window.now c.args.mark_at c.args.mark.now moments) c.in_ok-sync.ensures in
    mark_written c.args.at c.args.window.now c.args.mark_at c.args.mark.now synced c.in_ok-write_sectors.ensures.done moments.continues c.in_ok-sync.ensures c.in_err-write.ensures

pub returns-in_err-sync-2-clause-any_moment : goal.returns-in_err-sync-2-clause-any_moment
returns-in_err-sync-2-clause-any_moment g c =
    let moments = c.in_ok-write_sectors.ensures.any_moment in
    let synced = then_sync (window_written c.args.at c.args.window.now c.args.mark_at c.args.mark.now moments) c.in_ok-sync.ensures in
    let marked = mark_written c.args.at c.args.window.now c.args.mark_at c.args.mark.now synced c.in_ok-write_sectors.ensures.done moments.continues c.in_ok-sync.ensures c.in_ok-write.ensures in
    then_sync marked c.in_err-sync-2.ensures

pub returns-clause-any_moment : goal.returns-clause-any_moment
returns-clause-any_moment g c =
    let moments = c.in_ok-write_sectors.ensures.any_moment in
    let synced = then_sync (window_written c.args.at c.args.window.now c.args.mark_at c.args.mark.now moments) c.in_ok-sync.ensures in
    let marked = mark_written c.args.at c.args.window.now c.args.mark_at c.args.mark.now synced c.in_ok-write_sectors.ensures.done moments.continues c.in_ok-sync.ensures c.in_ok-write.ensures in
    then_sync marked c.in_ok-sync-2.ensures

pub returns-clause-done : goal.returns-clause-done
returns-clause-done g c =
    published_all c.in_ok-write_sectors.ensures.any_moment.continues c.in_ok-write_sectors.ensures.done c.in_ok-sync.ensures c.in_ok-write.ensures c.in_ok-sync-2.ensures
