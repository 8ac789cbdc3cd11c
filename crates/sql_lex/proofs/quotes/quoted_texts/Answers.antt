use Rattle.sql_lex.proofs.QuotesLemmas.{to_closing-doubled_text, to_closing-is, undoubled-doubled_text}
use Rattle.sql_lex.proofs.quotes.quoted_texts.Goals as goal

pub returns-clause-ends : goal.returns-clause-ends
returns-clause-ends c = to_closing-doubled_text

pub returns-clause-nowhere_else : goal.returns-clause-nowhere_else
returns-clause-nowhere_else c = λ quote n text. to_closing-is quote text n

pub returns-clause-content : goal.returns-clause-content
returns-clause-content c = undoubled-doubled_text
