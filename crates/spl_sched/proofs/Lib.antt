mod CommandLaws
mod TransactionLaws
mod CheckLaws
mod GrammarLaws
mod LineLaws
