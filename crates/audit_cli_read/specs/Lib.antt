pub mod EventCalls
pub mod EventModel
pub mod EventLaws
