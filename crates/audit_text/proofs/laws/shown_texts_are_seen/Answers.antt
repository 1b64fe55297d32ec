use Rattle.audit_text.proofs.SeenLetters.{texts_seen, texts_same}
use Rattle.audit_text.proofs.laws.shown_texts_are_seen.Goals as goal

pub returns : goal.returns
returns c = record { seen = texts_seen; same = texts_same }
