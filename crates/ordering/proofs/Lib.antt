-- What the caller cites is `Turns`: the loop over a set's groups, turn by turn. `SpanLaws` is for the functions of this crate, `Spanned` ties their
-- words to the definition's slots.
pub mod SpanLaws
pub mod Spanned
pub mod Turns
