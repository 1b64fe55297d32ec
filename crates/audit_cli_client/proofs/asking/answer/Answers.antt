use Rattle.audit_cli_client.proofs.AskedQuestions.{newest_asked, state_asked, place_asked, last_asked, evidence_asked, export_asked}
use Rattle.audit_cli_client.proofs.asking.answer.Goals as goal

pub returns-in-Commitment-clause-asked : goal.returns-in-Commitment-clause-asked
returns-in-Commitment-clause-asked g c = rw c.in-Commitment.is (newest_asked c.newest_commitment-newest.result c.print_commitment.result _ _ _ _ c.newest_commitment-newest.ensures.done c.newest_commitment-newest.ensures.fault c.print_commitment.ensures.fault)

pub returns-in-State-clause-asked : goal.returns-in-State-clause-asked
returns-in-State-clause-asked g c = rw c.in-State.is (state_asked c.state_of_store-state.result c.print_state.result _ _ _ _ c.state_of_store-state.ensures.done c.state_of_store-state.ensures.fault c.print_state.ensures.fault)

pub returns-in-Place-clause-asked : goal.returns-in-Place-clause-asked
returns-in-Place-clause-asked g c = rw c.in-Place.is (place_asked c.place_of_kind-place.result c.print_place.result _ _ _ _ c.in-Place.kind c.place_of_kind-place.ensures.done c.place_of_kind-place.ensures.fault c.print_place.ensures.fault)

pub returns-in-Close-clause-asked : goal.returns-in-Close-clause-asked
returns-in-Close-clause-asked g c = rw c.in-Close.is (last_asked c.close_log-last.result c.print_commitment-in-Close.result _ _ _ _ c.close_log-last.ensures.done c.close_log-last.ensures.fault c.print_commitment-in-Close.ensures.fault)

pub returns-in-Evidence-clause-asked : goal.returns-in-Evidence-clause-asked
returns-in-Evidence-clause-asked g c = rw c.in-Evidence.is (evidence_asked c.put_evidence-put.result c.print_evidence.result _ _ _ _ c.in-Evidence.evidence c.in-Evidence.out c.put_evidence-put.ensures.given c.put_evidence-put.ensures.fault c.print_evidence.ensures.fault)

pub returns-in-Export-clause-asked : goal.returns-in-Export-clause-asked
returns-in-Export-clause-asked g c = rw c.in-Export.is (export_asked c.export_to-export.result c.print_export.result _ _ _ _ c.in-Export.out c.in-Export.first c.export_to-export.ensures.given c.export_to-export.ensures.fault c.print_export.ensures.fault)
