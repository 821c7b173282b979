mod Choices
mod Taking
