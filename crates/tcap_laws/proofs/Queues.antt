pub mod BoundedQueues
pub mod FormedRejects
pub mod KeptQueues
pub mod QueuedComponents
pub mod ReceivedQueues
pub mod RequestedComponents
pub mod SentComponents
