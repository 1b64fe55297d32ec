pub mod AskedQuestions
mod Readings
mod NoBadArguments
mod Connected
