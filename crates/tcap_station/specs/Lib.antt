pub mod HistoryForm
pub mod Line
pub mod Marks
pub mod Runs
pub mod Station
pub mod StepForm
pub mod WaitingOutput
pub mod WaitingViews
