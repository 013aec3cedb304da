use Rattle.publication_core.proofs.MeetingLemmas.{meeting_alone, meeting_copies}
use Rattle.publication_core.proofs.laws.a_sender_and_an_image_make_a_copy.Goals as goal

pub returns-clause-alone : goal.returns-clause-alone
returns-clause-alone c = meeting_alone

pub returns-clause-copy : goal.returns-clause-copy
returns-clause-copy c = meeting_copies
