-- What a field is, and the laws of fields: no contract of what stands above cites any of it.
pub mod Canonical
pub mod Format
pub mod FormatLaws
pub mod OutputLaws
pub mod PrimitiveLaws
pub mod Heads
pub mod Numbers
pub mod Wholes
