pub mod FirstOutputs
pub mod SentOctets
pub mod SentOnce
pub mod SubmittedParts
pub mod SubmittedQueues
pub mod SubmittedReceptions
pub mod SubmittedRequests
