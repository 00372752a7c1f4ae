-- What the walk rests on, what a resolver gave, and how far a field or an item goes; and the parts of that.
pub mod Sound
pub mod Resolve
pub mod Steps
pub mod Field
