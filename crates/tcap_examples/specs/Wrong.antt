pub mod TurnedIdle
pub mod TurnedMoves
pub mod WrongAddresses
pub mod WrongAnswers
pub mod WrongEnds
pub mod WrongHistories
pub mod WrongIdle
