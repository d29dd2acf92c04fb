-- The run sheet: its reader is 01's grammar and nothing else; the calls that its lines make and their part in demand 3;
-- its limits.
pub mod Readers
pub mod Numbers
pub mod NumbersBack
pub mod Lists
pub mod Pairs
pub mod SameTexts
pub mod Written
pub mod WrittenBack
pub mod Printed
pub mod PlayedLines
pub mod EachForm
pub mod ListOfCalls
pub mod StepsOfLines
pub mod Fits
pub mod Limits
