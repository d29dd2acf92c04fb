-- What the functions that tape the items of a line promise, in the words of steps taped one after another.
pub mod TapedItems
