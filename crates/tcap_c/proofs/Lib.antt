pub mod ArgumentLemmas
pub mod CodecLemmas
pub mod CopyLemmas
pub mod HandleValues
pub mod NameLemmas
pub mod ReadingLemmas
pub mod RoomLemmas
