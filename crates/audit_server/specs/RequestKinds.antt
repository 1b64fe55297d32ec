-- What a piece's requests are to a core's clients.
use Rattle.std.specs.Prelude.{ℕ, ◌+◌, List, [], ◌∷◌}
use Rattle.audit_server_commit.specs.Arrivals.{Arrival, an_append, a_question}
use Rattle.audit_server_commit.specs.LongestReplies.{longest_answer, longest_reply}
use Rattle.audit_serve_passes.specs.Core.{RequestKind, appending, asking}

-- A close is an append too. What ends a session is answered as a question.
abbrev pub kind_of : Arrival → RequestKind
kind_of (an_append append) = appending
kind_of (a_question question) = asking (longest_answer question.query)

-- the longest replies to arrivals, all of them
abbrev pub longest_replies : List Arrival → ℕ
longest_replies [] = 0
longest_replies (arrival ∷ arrivals) = longest_reply arrival + longest_replies arrivals
