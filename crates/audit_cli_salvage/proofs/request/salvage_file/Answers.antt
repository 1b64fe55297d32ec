use Rattle.std.proofs.Common.{refl, subst, List, sym}
use Rattle.audit_cli_salvage.specs.SalvageWords.{AreProofsAsked}
use Rattle.audit_cli_salvage.specs.declared.proofs.ProvedLeaf.{ProvedLeaf}
use Rattle.audit_cli_salvage.proofs.Requests.{searched_at}
use Rattle.audit_cli_salvage.proofs.request.salvage_file.Goals as goal

pub returns-clause-searched : goal.returns-clause-searched
returns-clause-searched g c =
    let words = c.in_ok-words.ensures in
    let proofs = subst (AreProofsAsked g.F.File.SystemFile.facts g.F.File.Read.remaining c.args.asked.under c.args.asked.proofs.now) (sym {A = List ProvedLeaf} c.deref.ensures.value) (c.in_ok-proofs.ensures.shown c.args.asked.under words.under) in
    searched_at g.F.File.SystemFile.facts g.F.File.PositionedFile.positioned _ g.F.File.Read.remaining c.args.asked c.in_ok-words.words.beyond c.in_ok-first_key.first_key c.deref.result.now c.in_ok-opened.opened.content
    (g.W.Write.contents c.args.output.now) (g.W.Write.contents c.proofs_asked.new.output) (g.W.Write.contents c.search_opened.new.output) c.search_opened.result words.beyond c.in_ok-first_key.ensures.key proofs c.in_ok-opened.ensures.at (c.in_ok-proofs.ensures.written refl) c.search_opened.ensures.searched c.search_opened.ensures.words
