pub mod ComponentExamples
pub mod GrammarExamples
pub mod HeadlineExamples
pub mod IdleExamples
pub mod IsolationExamples
pub mod SendingExamples
