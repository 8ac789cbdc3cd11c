mod AnswerLemmas
mod SourceLemmas
mod JoinLemmas
mod WhereLemmas
mod RowLemmas
mod StepLemmas
mod TreeLemmas
mod StatementLemmas
