pub mod Answers
pub mod Machine
pub mod Reading
pub mod ScriptGrammar
pub mod ScriptWords
pub mod Stages
