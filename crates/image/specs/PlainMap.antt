-- Document 01, "The plain path map": it holds n and a table, and is fed each call's name and arguments, and nothing of the store.
use Rattle.std.specs.Prelude.{ℕ, List, [], ◌∷◌}
use Rattle.image.specs.Table.{Row}
use Rattle.image.specs.Calls.{Call, acts, keeps, asks, Answer, ask, first_no, work_long, questions, answer_at, table_at}

-- "It asks the questions above that apply, of what it is fed and what it holds; 2, and 1 of the store, are always a yes."
unfoldable pub plain_first_no : ℕ → Call → List Row → ℕ
plain_first_no n c t = first_no (ask 1 (work_long n c) ∷ questions n c t)

-- "A flush or heal gets no questions and no answer here": of any other call, its answer in front of the later ones.
unfoldable pub reported : Call → Answer → List Answer → List Answer
reported (acts x work) a later = a ∷ later
reported (keeps u i work) a later = later
reported (asks q buffer) a later = a ∷ later

-- the table after a list of calls, and the answers on the way
unfoldable pub table_on : ℕ → List Call → List Row → List Row
table_on n [] t = t
table_on n (c ∷ cs) t = table_on n cs (table_at (plain_first_no n c t) c t)

unfoldable pub answers_on : ℕ → List Call → List Row → List Answer
answers_on n [] t = []
answers_on n (c ∷ cs) t = reported c (answer_at (plain_first_no n c t) c t) (answers_on n cs (table_at (plain_first_no n c t) c t))
