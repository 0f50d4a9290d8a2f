pub mod LineRanges
pub mod OpenedScripts
pub mod PlayMessages
pub mod PlayShown
pub mod SoundPlays
pub mod WordRanges
